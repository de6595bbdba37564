pub mod Complete
pub mod Certificate
pub mod Rows
pub mod Worked
pub mod inside
