-- What contracts within and between crates speak of besides what the clauses of the top calls and the laws reach.
pub mod Handing
pub mod FormDeck
pub mod Outcome
pub mod Solving
