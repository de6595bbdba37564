-- What contracts within and between crates speak of besides what the clauses of the top calls and the laws reach.
pub mod Walks
pub mod KneeTests
pub mod Kept
pub mod Crossings
pub mod Safe
pub mod Bounds
pub mod Reasons
pub mod Advances
pub mod Additions
pub mod Checking
pub mod Checkers
pub mod Certified
pub mod Auditing
pub mod fast
