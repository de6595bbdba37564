-- What contracts within and between crates speak of besides what the clauses of the top calls and the laws reach.
pub mod Ways
pub mod Searches
pub mod Lengths
pub mod Rooms
pub mod Growing
pub mod Choosing
pub mod Labelling
