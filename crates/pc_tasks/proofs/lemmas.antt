pub mod network
