pub mod DeskCommand
pub mod BareWords
