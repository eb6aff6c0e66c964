-- What only private functions cite: the steps of this crate's code.
pub mod Entries
pub mod Found
