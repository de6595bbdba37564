pub mod Tasks
pub mod Arrows
pub mod Cycles
