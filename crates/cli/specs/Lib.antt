pub mod Grammar
pub mod Asking
pub mod Errors
pub mod Rules
pub mod steps
