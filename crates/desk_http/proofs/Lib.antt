pub mod Firsts
pub mod Stays
pub mod Written
pub mod Named
pub mod Asked
pub mod Answered
pub mod Connections
pub mod Plans
