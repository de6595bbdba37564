pub mod Reading
pub mod Reasons
pub mod Plans
pub mod Editing
pub mod Refusal
pub mod Standing
