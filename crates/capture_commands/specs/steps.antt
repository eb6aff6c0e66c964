pub mod Inputs
pub mod Reading
pub mod Places
pub mod Beside
pub mod Surveyed
pub mod Lines
