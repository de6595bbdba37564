-- What contracts within and between crates speak of besides what the clauses of the top calls and the laws reach.
pub mod Project
pub mod Placed
pub mod Kept
pub mod Refusal
pub mod Numbered
pub mod Runs
pub mod Parts
pub mod shell
