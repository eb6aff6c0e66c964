pub mod Collecting
pub mod Reading
pub mod Adds
pub mod Encodes
-- What only private functions cite.
pub mod Counting
pub mod LogsAt
pub mod Name
pub mod Cutting
pub mod Passing
