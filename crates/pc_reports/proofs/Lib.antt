pub mod DateLaws
mod ForecastLaws
mod OutlookLaws
mod PathLaws
mod RowLaws
mod WorkedRows
pub mod OneTextLaws
