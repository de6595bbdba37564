-- The small deck worked through by hand.
pub mod SmallDeck
