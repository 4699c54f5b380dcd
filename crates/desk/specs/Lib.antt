pub mod Office
pub mod Saying
pub mod Running
pub mod Succeeding
pub mod Causes
