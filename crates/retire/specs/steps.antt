pub mod Excess
pub mod Header
pub mod RowsLeft
pub mod PlainRow
pub mod Place
pub mod ReadsRows
pub mod Stands
