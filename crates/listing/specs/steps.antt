-- What only private functions cite: the steps of this crate's code.
pub mod Message
pub mod Part
pub mod Started
pub mod Writing
