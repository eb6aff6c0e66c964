pub mod Begun
pub mod steps
pub mod Fields
pub mod Quoted
pub mod ReadBack
