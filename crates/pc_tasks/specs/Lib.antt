pub mod Lists
pub mod Codes
pub mod Drawn
pub mod Known
pub mod Refusal
pub mod Text
pub mod network
pub mod inside
