pub mod Share
pub mod Table
pub mod Items
pub mod Loading
pub mod LoadText
pub mod inside
