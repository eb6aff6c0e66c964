pub mod AuditRuns
pub mod AuditSteps
pub mod ByHartLemmas
pub mod ReceivedCapture
pub mod FollowedRuns
pub mod Formats
pub mod HartLines
pub mod MatchedLines
pub mod MatchedRuns
pub mod Notes
pub mod PlainRows
pub mod ReadSpans
pub mod AddedPayloads
pub mod Rests
pub mod RunLines
pub mod SpanRows
pub mod Sums
mod CaptureRuns
mod CaptureSteps
mod StreamedLines
mod GeneratedCaptures
mod MixedLogs
mod DecodedCaptures
