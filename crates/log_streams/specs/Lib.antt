pub mod Illegal
pub mod Made
pub mod Next
pub mod Read
pub mod Refusing
pub mod steps
pub mod Gave
pub mod Known
