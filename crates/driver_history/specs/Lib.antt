pub mod Carrying
pub mod Debts
pub mod Owing
pub mod Advancing
pub mod Keeping
pub mod Reading
pub mod Finding
pub mod Laws
