pub mod Climb
pub mod Refusal
pub mod Preorder
pub mod inside
