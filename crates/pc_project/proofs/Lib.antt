pub mod RefusalLaws
pub mod AnyLaws
pub mod CardLaws
pub mod FitLaws
pub mod LoopLaws
pub mod NumberLaws
mod PlannedLaws
mod RangeLaws
mod CountLaws
mod PieceLaws
mod RunLaws
mod PieceSteps
mod BranchLaws
mod DisorderLaws
mod FigureLaws
pub mod MakesLaws
mod StateLaws
mod CardPlaces
pub mod SoundLaws
pub mod OneProjectLaws
pub mod lemmas
