-- What contracts within and between crates speak of besides what the clauses of the top calls and the laws reach.
pub mod Planning
pub mod Inside
pub mod Hearing
pub mod SessionOutcome
pub mod edits
pub mod trials
