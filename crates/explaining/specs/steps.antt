-- What only private functions cite.
pub mod ShortWord
pub mod JoinedRanges
pub mod RangeTexts
