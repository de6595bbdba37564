-- Laws of segments: their readings between their ends, and how they cover a range.
pub mod Falls
pub mod Readings
pub mod Covering
