pub mod DeckFacts
mod ReaderFacts
pub mod FieldFacts
pub mod TextFacts
pub mod Utf8Facts
pub mod LengthFacts
