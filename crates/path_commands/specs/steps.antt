pub mod Ending
pub mod Following
pub mod Reading
pub mod Noting
pub mod Summing
pub mod Matching
pub mod Ready
pub mod Streaming
