pub mod SideLaws
pub mod ReadingLaws
pub mod VerdictLaws
pub mod PricedLaws
pub mod OneWordLaws
