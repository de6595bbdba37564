pub mod Form
pub mod Reading
pub mod Sixths
pub mod CalendarLaws
