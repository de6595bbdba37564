-- Curves worked through by hand.
pub mod Checks
pub mod Decks
