pub mod Entries
pub mod Amounts
pub mod Second
pub mod Packages
pub mod status
pub mod inside
