pub mod edits
pub mod trials
