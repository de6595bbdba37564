pub mod Networks
pub mod Degrees
pub mod Firmness
pub mod Cycles
pub mod Refusals
pub mod inside
