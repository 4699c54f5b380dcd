pub mod Counting
pub mod Views
pub mod Rule
pub mod Holding
pub mod Claiming
pub mod Machine
pub mod Laws
