mod CourseLaws
mod EarlyTimes
mod FlowLaws
pub mod LookLaws
mod NextLaws
pub mod OpeningLaws
pub mod lemmas
