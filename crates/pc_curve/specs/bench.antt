pub mod Draws
pub mod Recipe
pub mod Deck
pub mod Figures
pub mod Report
