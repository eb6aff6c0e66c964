pub mod Privilege
pub mod Address
