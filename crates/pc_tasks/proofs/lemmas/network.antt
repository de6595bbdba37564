pub mod EventTimes
pub mod Drawing
pub mod Keeping
pub mod Kept
pub mod Joined
pub mod Cycles
pub mod Outer
pub mod Sound
