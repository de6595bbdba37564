pub mod PartLaws
mod DayLaws
mod AmountLaws
mod SecondLaws
mod PackageLaws
mod EntryLaws
pub mod WholeLaws
pub mod OneBookLaws
pub mod lemmas
