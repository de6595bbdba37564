pub mod Terms
pub mod Priced
pub mod inside
