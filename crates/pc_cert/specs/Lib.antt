pub mod Lines
pub mod Grammar
pub mod Text
pub mod Reader
pub mod Listed
pub mod Document
pub mod inside
