-- What the contracts of messages and captures cite.
pub use Rattle.message.specs.OfHart
pub use Rattle.message.specs.Numbered
pub use Rattle.message.specs.Capacity
pub use Rattle.message.specs.Capture
pub use Rattle.message.specs.Cut
pub use Rattle.message.specs.Header
pub use Rattle.message.specs.Version
pub use Rattle.message.specs.Started
pub use Rattle.message.specs.Harts
pub use Rattle.message.specs.Accepting
pub use Rattle.message.specs.Accepted
pub use Rattle.message.specs.Lossy
pub use Rattle.message.specs.FaultText as MessageFaultText
pub use Rattle.message.specs.Range as RangeOfHarts
pub use Rattle.message.specs.Text as RangeText
pub use Rattle.receiver.specs.Received
pub use Rattle.receiver.specs.Holds
pub use Rattle.receiver.specs.Agreeing
pub use Rattle.receiver.specs.NotReceived
pub use Rattle.captures.specs.HexLines
pub use Rattle.captures.specs.Messages
pub use Rattle.captures.specs.Versions
pub use Rattle.captures.specs.NoMessage
pub use Rattle.captures.specs.Whole
pub use Rattle.captures.specs.Decoded
pub use Rattle.captures.specs.Returned
pub use Rattle.captures.specs.FaultText as CaptureFaultText
pub use Rattle.captures.specs.PacketText
pub use Rattle.captures.specs.Offsets as CaptureOffsets
pub use Rattle.captures.specs.Dump
pub use Rattle.parallel_decode.specs.Places as HartPlaces
pub use Rattle.parallel_decode.specs.Placed as PlacedLogs
pub use Rattle.parallel_decode.specs.Surveyed
pub use Rattle.parallel_decode.specs.CaptureSurveyed
pub use Rattle.parallel_decode.specs.Marks
pub use Rattle.parallel_decode.specs.EachHart
pub use Rattle.parallel_decode.specs.HartsText
pub use Rattle.parallel_decode.specs.Written as WrittenHarts
pub use Rattle.parallel_decode.specs.Laws as WrittenHartsLaws
pub use Rattle.parallel_decode.specs.Marked as MarkedSurveys
pub use Rattle.parallel_decode.specs.CaptureMarked
pub use Rattle.parallel_decode.specs.MarkedRows as MarkedHarts
pub use Rattle.parallel_decode.specs.Left as HartEventsLeft
pub use Rattle.captures.specs.Line as CaptureLine
pub use Rattle.captures.specs.Lines as CaptureLines
pub use Rattle.captures.specs.Number as LinesNumber
pub use Rattle.captures.specs.Capture as LinesCapture
pub use Rattle.captures.specs.Streamed as LinesStreamed
pub use Rattle.captures.specs.Pass as LinesPassed
pub use Rattle.captures.specs.ReadBack as LinesReadBack
pub use Rattle.captures.specs.Recovered as LinesRecovered
pub use Rattle.captures.specs.LineFaultText as LinesFaultText
pub use Rattle.symbols.specs.File as SymbolFile
pub use Rattle.symbols.specs.Nearest
pub use Rattle.symbols.specs.Naming
pub use Rattle.symbols.specs.Refused as SymbolsRefused
pub use Rattle.symbols.specs.FaultText as SymbolsFaultText
pub use Rattle.symbols.specs.SymbolText
pub use Rattle.listing.specs.Effect
pub use Rattle.listing.specs.EffectText
pub use Rattle.listing.specs.SettledRows as ListingSettledRows
pub use Rattle.listing.specs.Lines as ListingLines
pub use Rattle.listing.specs.Placed as ListingPlaced
pub use Rattle.listing.specs.Entries as ListingEntries
pub use Rattle.listing.specs.Listing
pub use Rattle.listing.specs.Begun as ListingBegun
pub use Rattle.listing.specs.Packets as ListingTablePackets
pub use Rattle.listing.specs.Rows as ListingTableRows
pub use Rattle.listing.specs.ReadBack as ListingTableReadBack
pub use Rattle.output.specs.Fields as TableFields
pub use Rattle.output.specs.Quoted as TableQuoted
pub use Rattle.output.specs.ReadBack as TableReadBack
pub use Rattle.captures.specs.HasEncoded
pub use Rattle.output.specs.Begun
