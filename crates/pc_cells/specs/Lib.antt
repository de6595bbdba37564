pub mod Spans
pub mod inside
