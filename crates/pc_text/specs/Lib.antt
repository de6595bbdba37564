pub mod Code
pub mod Title
pub mod Number
pub mod Line
pub mod Fields
pub mod inside
