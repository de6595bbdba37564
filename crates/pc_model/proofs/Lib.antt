pub mod Sums
pub mod Walks
pub mod Schedules
pub mod Costs
pub mod Worked
