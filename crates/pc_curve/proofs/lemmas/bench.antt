pub mod ActivityLaws
pub mod DeckLaws
pub mod SumLaws
pub mod CountLaws
pub mod TallyLaws
pub mod OneTextLaws
