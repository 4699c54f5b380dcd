pub mod Brought
pub mod Values
pub mod Growing
pub mod Naming
pub mod Reaching
pub mod Closing
pub mod Taking
pub mod Prunes
