-- What only private functions cite: the steps of this crate's code.
pub mod ReadingByKind
pub mod Unpacking
