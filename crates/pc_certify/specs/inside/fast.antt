-- What contracts within and between crates speak of besides what the clauses of the top calls and the laws reach.
pub mod Spelled
pub mod Gathers
