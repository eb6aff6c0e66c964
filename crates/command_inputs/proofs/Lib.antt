pub mod Beginnings
pub mod FirstSteps
pub mod Formats
pub mod FromFiles
pub mod FromStart
pub mod PiecesAdded
pub mod Runs
pub mod StreamLemmas
mod SymbolsFound
