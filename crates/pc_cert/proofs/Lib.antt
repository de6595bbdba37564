pub mod Passing
pub mod NumberLemmas
pub mod FieldLemmas
pub mod FlowsLemmas
pub mod LineLaws
pub mod LineLengths
pub mod TextLaws
pub mod ReaderLaws
pub mod EventLaws
pub mod ListedLaws
pub mod WordLaws
pub mod FitLaws
mod KnownLaws
mod FrontLaws
