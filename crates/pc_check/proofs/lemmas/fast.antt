pub mod AlongLaws
pub mod FrontsLaws
pub mod PassedLaws
mod RunLaws
