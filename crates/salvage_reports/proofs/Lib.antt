pub mod HartLists
mod PairedLists
mod RowsBelow
mod OffsetLists
pub mod OwnSpans
pub mod CappedSums
pub mod RangeOf
pub mod PartTexts
pub mod SameTexts
pub mod FoundBehind
mod AddedUp
mod WorkedSalvages
pub mod TreatedLine
pub mod TakenMessages
pub mod AcceptedInTurn
pub mod AcceptedTaken
pub mod ListedAlike
pub mod LogsTaken
mod WorkedLines
pub mod PlainRows
pub mod TreatedRow
pub mod SpanTexts
pub mod ShownSpans
pub mod SpanCounts
pub mod ReadRows
pub mod TakenFields
