pub mod LawfulGuesses
pub mod Parts
