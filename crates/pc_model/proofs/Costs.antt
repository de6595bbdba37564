-- Laws of what durations cost, and of the least cost for a length.
pub mod NormalCost
pub mod LeastCost
pub mod Halfway
pub mod PieceLaws
