pub mod Ways
pub mod Steps
pub mod Lists
pub mod Reading
pub mod Raising
pub mod Filled
pub mod Gains
