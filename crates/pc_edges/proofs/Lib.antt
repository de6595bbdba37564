pub mod Writing
pub mod PullLaws
mod LoadingLaws
mod Copying
pub mod lemmas
