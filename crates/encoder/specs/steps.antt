-- What only private functions cite: the steps of this crate's code.
pub mod Stepping
pub mod Becomes
pub mod SourceFields
