-- What contracts within and between crates speak of besides what the clauses of the top calls and the laws reach.
pub mod Share
pub mod Table
pub mod TableInside
pub mod Adding
pub mod Items
pub mod Loading
pub mod LoadingInside
pub mod PrintedLoad
pub mod Entries
