pub mod page
pub mod lines
