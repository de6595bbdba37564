pub mod ConvexLaws
mod LeastLaws
mod TotalLaws
mod SignLaws
mod WayLaws
