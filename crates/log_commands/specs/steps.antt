pub mod Checked
pub mod Made
pub mod Parts
