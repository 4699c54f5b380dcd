pub mod DateTests
pub mod Fields
pub mod RowKinds
pub mod Reading
