pub mod Totals
pub mod Bests
pub mod BestText
pub mod inside
