pub mod ListLaws
mod TurnLaws
mod CurveLaws
mod ComeLaws
mod ReadLaws
mod TextLaws
pub mod OneTextLaws
pub mod RangeLaws
pub mod lemmas
