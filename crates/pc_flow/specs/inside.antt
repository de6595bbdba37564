-- What contracts within and between crates speak of besides what the clauses of the top calls and the laws reach.
pub mod Paces
pub mod Courses
pub mod Solvers
pub mod Openings
pub mod Descents
pub mod stair
pub mod board
pub mod search
