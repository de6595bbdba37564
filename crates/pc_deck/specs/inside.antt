-- What contracts within and between crates speak of besides what the clauses of the top calls and the laws reach.
pub mod Act
pub mod Kinds
pub mod Text
pub mod Judged
pub mod Reading
pub mod Within
pub mod Titles
pub mod Made
pub mod Misfit
