pub mod LineLaws
pub mod RunLemmas
pub mod HoldLemmas
pub mod StepLemmas
pub mod TalkLaws
