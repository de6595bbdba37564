pub mod Sides
pub mod Verdict
pub mod Reading
pub mod OneWord
pub mod Priced
