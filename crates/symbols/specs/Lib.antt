pub mod File
pub mod Refused
pub mod Nearest
pub mod Naming
pub mod FaultText
pub mod SymbolText
pub mod steps
