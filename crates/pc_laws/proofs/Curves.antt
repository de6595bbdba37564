-- Laws of the time-cost curve: where it turns, and its breakpoints.
pub mod Turns
pub mod OneList
pub mod Points
