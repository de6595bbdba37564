-- What contracts within and between crates speak of besides what the clauses of the top calls and the laws reach.
pub mod Writes
pub mod Loading
pub mod Supply
pub mod Intake
pub mod MemSource
pub mod MemSink
pub mod page
pub mod lines
