-- Laws of flows: what they promise, and how large they can be.
pub mod Balance
pub mod Activity
pub mod Duality
pub mod Bounds
