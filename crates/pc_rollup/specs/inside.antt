-- What contracts within and between crates speak of besides what the clauses of the top calls and the laws reach.
pub mod Totals
pub mod Amounts
pub mod Least
pub mod figures
