pub mod Courses
pub mod board
pub mod search
pub mod inside
