pub mod Received
pub mod Holds
pub mod Agreeing
pub mod NotReceived
