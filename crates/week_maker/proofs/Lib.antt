pub mod GrowingText
pub mod Ranges
pub mod WholeText
pub mod Stamps
