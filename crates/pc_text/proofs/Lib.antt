mod CodeLemmas
mod CodeNumberLemmas
pub mod NumberLemmas
pub mod DigitsLemmas
pub mod FieldLemmas
pub mod SpellingLemmas
mod TableLemmas
