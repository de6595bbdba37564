pub mod FindLemmas
pub mod MisfitLemmas
pub mod NameLemmas
pub mod FitLemmas
pub mod RoomLemmas
pub mod SpellingLemmas
