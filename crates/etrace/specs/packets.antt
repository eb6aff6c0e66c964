-- What the contracts of packets, of encoder and decoder, and of measures cite.
pub use Rattle.payload.specs.Bytes
pub use Rattle.payload.specs.Extension
pub use Rattle.payload.specs.Fields
pub use Rattle.payload.specs.Layout
pub use Rattle.payload.specs.Limits
pub use Rattle.payload.specs.Outcomes
pub use Rattle.payload.specs.OutcomesInverse
pub use Rattle.payload.specs.PacketFields
pub use Rattle.payload.specs.Profile
pub use Rattle.payload.specs.Spelling
pub use Rattle.payload.specs.Faults
pub use Rattle.payload.specs.FaultText as PackFaultText
pub use Rattle.payload.specs.Reading
pub use Rattle.payload.specs.Closing
pub use Rattle.payload.specs.ClosedTrace
pub use Rattle.payload.specs.AddressField
pub use Rattle.encoder.specs.Spot
pub use Rattle.encoder.specs.Rule
pub use Rattle.encoder.specs.Piece
pub use Rattle.encoder.specs.Packets
pub use Rattle.encoder.specs.Payloads
pub use Rattle.encoder.specs.PacketsSoFar
pub use Rattle.encoder.specs.Due
pub use Rattle.encoder.specs.EncoderStands
pub use Rattle.encoder.specs.StateStands
pub use Rattle.encoder.specs.Profile as LogProfile
pub use Rattle.encoder.specs.FewPackets
pub use Rattle.encoder.specs.SourceAt
pub use Rattle.decoder.specs.Walk
pub use Rattle.decoder.specs.Settling
pub use Rattle.decoder.specs.Fits
pub use Rattle.decoder.specs.Order
pub use Rattle.decoder.specs.ModeOf
pub use Rattle.decoder.specs.Pieces
pub use Rattle.decoder.specs.Describes
pub use Rattle.decoder.specs.SettledPieces
pub use Rattle.decoder.specs.DecoderStands
pub use Rattle.decoder.specs.StateStands as DecoderStateStands
pub use Rattle.decoder.specs.Resuming
pub use Rattle.decoder.specs.FaultText as DecodeFaultText
pub use Rattle.roundtrip.specs.Reach
pub use Rattle.captures.specs.Kinds as CountedKinds
pub use Rattle.captures.specs.Measures
pub use Rattle.captures.specs.Table as MeasureTable
pub use Rattle.captures.specs.Bounds as MeasureBounds
pub use Rattle.captures.specs.HasCounted
