pub mod Points
pub mod Breaks
pub mod CurveText
pub mod Range
pub mod bench
pub mod inside
