-- What contracts within and between crates speak of besides what the clauses of the top calls and the laws reach.
pub mod Passed
pub mod Fronts
pub mod Rows
pub mod Along
