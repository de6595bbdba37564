pub mod deck_text
pub mod shell
