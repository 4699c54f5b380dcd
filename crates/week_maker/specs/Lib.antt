pub mod Rows
pub mod MadeWeeks
pub mod Ranges
pub mod Stamps
