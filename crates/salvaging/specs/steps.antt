-- What only the private functions of this crate cite.
pub mod Arrivals
pub mod Grouping
pub mod UnderWay
pub mod Marks
pub mod Ending
pub mod Trails
pub mod Working
pub mod Rows
pub mod Looking
pub mod SortedOut
pub mod Lateness
pub mod Distributing
pub mod Ahead
pub mod Farness
