pub mod bench
