pub mod Flows
pub mod Segments
pub mod States
pub mod Curves
pub mod Stairs
pub mod OneSlope
pub mod Worked
