pub mod MessageTexts
pub mod CaptureStarts
pub mod Elements
pub mod FoundInFront
pub mod CapturesSplit
pub mod SoundLogs
pub mod LogMessages
pub mod OneMode
pub mod NextMessages
pub mod CapturesReturn
pub mod Reaching
pub mod ReachingHarts
pub mod DumpedMessages
pub mod Dumps
pub mod NothingDecoded
pub mod HeaderFaults
pub mod HeaderDumps
pub mod WholeCaptures
mod AddedPackets
mod EncodedEvents
pub mod CountedTogether
pub mod Within
pub mod PacketsInPieces
pub mod LogsInPieces
pub mod RowsInTurn
pub mod WorkedRows
mod Parts
pub mod LinesInParts
mod Numbers
mod Fields
mod Lowest
pub mod Passes
mod Known
mod Counts
mod Whole
pub mod StreamedCaptures
mod HexLineRead
mod SentMessages
mod HexTextRead
mod Recovering
