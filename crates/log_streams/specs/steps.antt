pub mod Allowed
pub mod Confirmed
pub mod Judging
pub mod Places
pub mod Reading
