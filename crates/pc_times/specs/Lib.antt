pub mod Times
pub mod Picked
pub mod Estimates
pub mod Late
pub mod Forecast
pub mod inside
