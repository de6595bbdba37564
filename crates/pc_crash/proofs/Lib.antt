pub mod PieceLaws
mod GroupLaws
mod KneeListLaws
mod LaidLaws
mod LinkLaws
mod MoveLaws
pub mod CostLaws
pub mod OwnPieceLaws
mod InsideLaws
