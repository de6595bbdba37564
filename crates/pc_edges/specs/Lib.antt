pub mod Faults
pub mod Pulls
pub mod Writes
pub mod Texts
pub mod page
pub mod lines
pub mod inside
