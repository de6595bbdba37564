-- What contracts within and between crates speak of besides what the clauses of the top calls and the laws reach.
pub mod Number
pub mod Fields
pub mod Lines
pub mod Reading
pub mod Grammar
pub mod Reader
pub mod Fed
pub mod Known
