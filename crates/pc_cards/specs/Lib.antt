pub mod Limits
pub mod Forms
pub mod Named
pub mod Entry
pub mod Cards
pub mod Findings
pub mod inside
