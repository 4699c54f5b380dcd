pub mod DateLemmas
pub mod DateFields
pub mod Fronts
pub mod RecordSteps
pub mod Begun
pub mod Standing
pub mod Belonging
