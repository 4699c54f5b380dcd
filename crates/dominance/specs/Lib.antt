pub mod Completions
pub mod Filing
pub mod Storing
pub mod Reaching
pub mod Forgetting
pub mod PricedOut
