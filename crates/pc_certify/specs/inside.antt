-- What contracts within and between crates speak of besides what the clauses of the top calls and the laws reach.
pub mod Certificate
pub mod Walks
pub mod Descent
pub mod fast
