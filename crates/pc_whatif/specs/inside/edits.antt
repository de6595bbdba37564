-- What contracts within and between crates speak of besides what the clauses of the top calls and the laws reach.
pub mod Lines
pub mod Plans
pub mod Editing
pub mod Inside
