pub mod SameLaws
pub mod AgainLaws
pub mod SettledLaws
pub mod WrittenLaws
