-- What contracts within and between crates speak of besides what the clauses of the top calls and the laws reach.
pub mod Schedule
pub mod Times
pub mod View
pub mod TimesInside
pub mod Earned
pub mod EarnedInside
pub mod OutlookText
