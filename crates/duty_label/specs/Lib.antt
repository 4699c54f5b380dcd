pub mod Children
pub mod Walks
pub mod Tables
pub mod Pruning
