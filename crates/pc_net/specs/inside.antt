-- What contracts within and between crates speak of besides what the clauses of the top calls and the laws reach.
pub mod Sides
pub mod Chains
pub mod Listings
pub mod Networks
pub mod Graphs
pub mod Queue
pub mod Firmness
pub mod Cycles
pub mod Turns
pub mod Labels
pub mod Nets
