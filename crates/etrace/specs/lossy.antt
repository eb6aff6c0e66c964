-- What the contracts on losses and audits cite.
pub use Rattle.losses.specs.Blocks
pub use Rattle.losses.specs.Parts
pub use Rattle.losses.specs.PartsIn
pub use Rattle.losses.specs.Losses
pub use Rattle.losses.specs.Runs
pub use Rattle.losses.specs.DescribedParts
pub use Rattle.losses.specs.Collected
pub use Rattle.losses.specs.Apart
pub use Rattle.losses.specs.WholeStretches
pub use Rattle.losses.specs.FaultText as LossyFaultText
pub use Rattle.losses.specs.Stops
pub use Rattle.losses.specs.Collects
pub use Rattle.auditing.specs.Matches
pub use Rattle.auditing.specs.Aligned
pub use Rattle.auditing.specs.Split
pub use Rattle.auditing.specs.Cursor
pub use Rattle.auditing.specs.Arrivals
pub use Rattle.auditing.specs.Counted
pub use Rattle.auditing.specs.Fates
pub use Rattle.auditing.specs.Judged
pub use Rattle.auditing.specs.Losing
pub use Rattle.auditing.specs.Unset
pub use Rattle.auditing.specs.Tallies
pub use Rattle.auditing.specs.Ledger
pub use Rattle.auditing.specs.Audits
pub use Rattle.auditing.specs.Sent
pub use Rattle.auditing.specs.Untouched
pub use Rattle.auditing.specs.DecodedAgain
pub use Rattle.auditing.specs.FateText
pub use Rattle.auditing.specs.Findings
pub use Rattle.auditing.specs.Exchanged
pub use Rattle.auditing.specs.HartRows
pub use Rattle.auditing.specs.SentPayload
pub use Rattle.auditing.specs.Known
pub use Rattle.auditing.specs.Seen
pub use Rattle.auditing.specs.PayloadSights
pub use Rattle.payload.specs.Same
pub use Rattle.frames.specs.GuidedTaken as ResumingTaken
pub use Rattle.frames.specs.Passages
pub use Rattle.frames.specs.Counted as ResumingCounted
pub use Rattle.frames.specs.Borrowed
pub use Rattle.frames.specs.Amid
pub use Rattle.frames.specs.Framed
pub use Rattle.frames.specs.PassedOver
