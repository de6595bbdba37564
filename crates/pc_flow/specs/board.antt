pub mod Sheets
