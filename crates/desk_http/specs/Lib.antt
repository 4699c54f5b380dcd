pub mod Heads
pub mod Routes
pub mod Bodies
pub mod Requests
pub mod Answers
pub mod Answering
pub mod Serving
