pub mod Classes
pub mod Pricing
pub mod Working
