pub mod ByFetch
pub mod PieceFaults
pub mod HeldBytes
pub mod Parts
pub mod Search
pub mod Kept
pub mod Words
