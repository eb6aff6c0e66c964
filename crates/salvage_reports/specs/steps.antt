pub mod Counted
pub mod Harts
pub mod Reading
