-- What contracts within and between crates speak of besides what the clauses of the top calls and the laws reach.
pub mod KneeLists
pub mod Groups
pub mod Laid
pub mod Moved
pub mod Priced
pub mod Looks
pub mod OwnPieces
pub mod CrashNets
pub mod Links
pub mod NetCodes
pub mod Steps
