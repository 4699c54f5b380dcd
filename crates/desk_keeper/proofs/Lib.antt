pub mod Lists
pub mod Moving
pub mod Entries
pub mod Publications
