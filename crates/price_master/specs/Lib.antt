pub mod Laws
pub mod Valuing
pub mod Pools
pub mod Bids
pub mod Sensible
pub mod Classes
pub mod Completing
pub mod Placing
