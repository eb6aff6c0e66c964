pub mod DigitsLemmas
mod ElfLemmas
pub mod RowLemmas
mod WorkedLines
pub mod ListedLemmas
pub mod RangesLemmas
pub mod RangeTextsLemmas
