mod Named
mod Keeping
mod Reading
mod Failing
mod Stored
