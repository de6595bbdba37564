pub mod Outline
pub mod Columns
pub mod Figures
pub mod Summary
pub mod Packages
pub mod Worth
pub mod Slacks
pub mod Outlook
