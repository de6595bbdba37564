pub mod Sums
pub mod Totals
pub mod Lines
pub mod Least
pub mod figures
pub mod inside
