-- Laws of durations and schedules.
pub mod Durations
pub mod Shortest
