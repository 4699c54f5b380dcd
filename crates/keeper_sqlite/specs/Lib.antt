pub mod Causes
pub mod Opens
pub mod Moves
pub mod Commits
pub mod Versions
