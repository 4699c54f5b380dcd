pub mod Device
pub mod Calls
pub mod Whole
pub mod Memory
pub mod Held
pub mod Streams
