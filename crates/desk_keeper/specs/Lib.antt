pub mod Tables
pub mod Records
pub mod Entries
pub mod Changes
pub mod Calls
pub mod Memory
pub mod Laws
