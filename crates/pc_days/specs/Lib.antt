pub mod Dates
pub mod Calendar
pub mod inside
