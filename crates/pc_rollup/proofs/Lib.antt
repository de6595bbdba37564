pub mod SumLaws
pub mod RollLaws
mod LeastLaws
mod BackLaws
pub mod PlacedLaws
mod ColumnLaws
mod LineLaws
pub mod WholeLaws
pub mod lemmas
