pub mod status
