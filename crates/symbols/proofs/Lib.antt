pub mod NearestLemmas
pub mod EntryLemmas
pub mod LineLemmas
pub mod BlankLemmas
pub mod OrderLemmas
pub mod FileLemmas
pub mod RefusedLemmas
mod WorkedSymbols
