-- What contracts within and between crates speak of besides what the clauses of the top calls and the laws reach.
pub mod Words
pub mod Code
pub mod CodeCells
pub mod CodeNumber
pub mod Title
pub mod Number
pub mod Line
