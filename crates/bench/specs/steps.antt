pub mod Collecting
pub mod Sending
pub mod TakesPacket
pub mod Taking
pub mod Replaying
pub mod Gathering
pub mod Stopping
pub mod Running
