pub mod Kinds
pub mod Faults
pub mod First
pub mod FaultText
pub mod inside
