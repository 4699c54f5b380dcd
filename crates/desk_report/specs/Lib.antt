pub mod Lines
pub mod Steps
pub mod Services
pub mod Reports
pub mod Summaries
pub mod Rows
pub mod Exports
pub mod Laws
