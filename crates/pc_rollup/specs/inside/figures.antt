-- What contracts within and between crates speak of besides what the clauses of the top calls and the laws reach.
pub mod Columns
pub mod Packages
pub mod Slacks
pub mod Outlook
pub mod OutlookParts
