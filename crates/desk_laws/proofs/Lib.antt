pub mod Moving
pub mod Played
