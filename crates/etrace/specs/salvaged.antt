-- What the contracts on damaged messages and on frames cite.
pub use Rattle.salvaging.specs.Strangers
pub use Rattle.salvaging.specs.Entries
pub use Rattle.salvaging.specs.Copies
pub use Rattle.salvaging.specs.LeftParts
pub use Rattle.salvaging.specs.Bad
pub use Rattle.salvaging.specs.ReasonText
pub use Rattle.salvaging.specs.Leaving
pub use Rattle.salvaging.specs.Ends
pub use Rattle.salvaging.specs.EndsByNumbers
pub use Rattle.salvaging.specs.EndsByParts
pub use Rattle.salvaging.specs.Late
pub use Rattle.salvaging.specs.Tallies as SalvagedTallies
pub use Rattle.salvaging.specs.Shares
pub use Rattle.salvaging.specs.Far
pub use Rattle.salvaging.specs.FarGaps
pub use Rattle.salvaging.specs.Treatments
pub use Rattle.salvaging.specs.TreatedParts
pub use Rattle.salvaging.specs.TreatedCounts
pub use Rattle.salvaging.specs.CountedOnce
pub use Rattle.salvaging.specs.PartsIn
pub use Rattle.salvaging.specs.Salvaged
pub use Rattle.salvaging.specs.Salvages
pub use Rattle.salvaging.specs.FromLogs
pub use Rattle.salvaging.specs.LogsSalvaged
pub use Rattle.salvaging.specs.LossyParts
pub use Rattle.salvaging.specs.AlikeParts
pub use Rattle.salvage_reports.specs.Words as SalvagedWords
pub use Rattle.salvage_reports.specs.Lines as SalvagedLines
pub use Rattle.salvage_reports.specs.Effects as SalvagedEffects
pub use Rattle.salvage_reports.specs.ListedAlike
pub use Rattle.salvage_reports.specs.Offsets as SalvagedOffsets
pub use Rattle.salvage_reports.specs.SalvagedItems
pub use Rattle.salvage_reports.specs.StretchEnds
pub use Rattle.salvage_reports.specs.Totals
pub use Rattle.salvage_reports.specs.TotalsAddUp
pub use Rattle.salvage_reports.specs.ShownParts
pub use Rattle.salvage_reports.specs.SalvagedReadBack
pub use Rattle.salvage_reports.specs.Fields as TreatedFields
pub use Rattle.salvage_reports.specs.TreatedRows as TreatedRows
pub use Rattle.salvage_reports.specs.TreatedText
pub use Rattle.salvage_reports.specs.EffectFields as TreatedEffects
pub use Rattle.salvage_reports.specs.TreatedReadBack as TreatedReadBack
pub use Rattle.salvage_reports.specs.Frames as CaptureFrames
pub use Rattle.salvage_reports.specs.HartItems
pub use Rattle.salvage_reports.specs.HartRows
pub use Rattle.salvage_reports.specs.Found
pub use Rattle.salvage_reports.specs.Damage
pub use Rattle.salvage_reports.specs.MessagesLine
pub use Rattle.salvage_reports.specs.Layouts
pub use Rattle.salvage_reports.specs.Salvaged as SalvagedCapture
pub use Rattle.frames.specs.Frame
pub use Rattle.frames.specs.Taken as FramesTaken
pub use Rattle.frames.specs.Spans as FrameSpans
pub use Rattle.frames.specs.Written as FramesWritten
pub use Rattle.frames.specs.Start as SearchStart
pub use Rattle.frames.specs.Harts as SearchHarts
pub use Rattle.frames.specs.Search
