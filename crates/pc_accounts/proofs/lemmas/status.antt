pub mod StateLaws
pub mod OneStateLaws
