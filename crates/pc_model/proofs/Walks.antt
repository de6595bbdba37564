-- Laws of walks, of orders of the events, and of the greatest sums over walks.
pub mod WalkLaws
pub mod OrderLaws
pub mod EarlyLaws
pub mod EarlyExists
pub mod CycleLaws
pub mod ListedLaws
pub mod UnsoundLaws
pub mod PlaceLaws
