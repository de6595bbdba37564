pub mod Deck
pub mod Text
pub mod inside
