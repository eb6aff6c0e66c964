-- What only private functions cite.
pub mod Rows
pub mod Sending
pub mod Drawing
