pub mod OnceLaws
pub mod PlaceLaws
