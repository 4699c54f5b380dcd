pub mod Words
pub mod Values
pub mod Asks
pub mod Asked
