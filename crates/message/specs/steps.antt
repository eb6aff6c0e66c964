pub mod Filling
pub mod Front
pub mod Passing
pub mod Settings
