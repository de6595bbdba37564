pub mod PlaceLemmas
pub mod CodeLemmas
pub mod EventLemmas
pub mod NetworkLemmas
pub mod TermLemmas
pub mod PieceLemmas
pub mod DrawnLemmas
pub mod MarkLemmas
pub mod CircleLemmas
pub mod PutLemmas
pub mod SpelledLemmas
pub mod OnceLemmas
pub mod FitLemmas
pub mod WithinLemmas
pub mod DrawLemmas
pub mod KnownLemmas
pub mod KeepLemmas
pub mod PhaseLemmas
pub mod VerdictLaws
mod TreeLemmas
mod SoundLemmas
pub mod lemmas
