pub mod SpelledLaws
pub mod GatherLaws
