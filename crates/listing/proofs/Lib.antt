pub mod ListedMessages
pub mod PlacedMessages
pub mod TakenMessages
pub mod Reaching
pub mod NothingListed
pub mod Parts
pub mod LastPlaces
pub mod LineParts
pub mod PlacesParts
pub mod AddedPlaces
mod WorkedLines
pub mod LastOf
pub mod RowParts
pub mod NamesWritten
pub mod PlainRows
mod WorkedRows
