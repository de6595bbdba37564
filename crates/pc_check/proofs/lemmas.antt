pub mod fast
