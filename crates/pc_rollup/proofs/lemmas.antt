pub mod figures
