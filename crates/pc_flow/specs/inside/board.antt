-- What contracts within and between crates speak of besides what the clauses of the top calls and the laws reach.
pub mod Sheets
pub mod Places
pub mod Taken
pub mod Layout
pub mod Moves
pub mod Labelling
pub mod Raising
pub mod Pruning
