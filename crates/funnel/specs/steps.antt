pub mod Passes
pub mod Sending
pub mod Words
