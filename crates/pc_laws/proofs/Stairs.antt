-- Laws of the staircase.
pub mod Units
pub mod OnStair
pub mod SameStair
pub mod Tightness
pub mod FilledState
pub mod Raised
pub mod StairStates
pub mod WorkedKnee
