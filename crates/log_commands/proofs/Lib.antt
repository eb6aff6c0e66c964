mod CheckedLogs
mod Generated
mod Gots
mod Headers
mod JoinedParts
mod MadeLogs
mod PartLogs
mod Reports
mod Schedules
pub mod MixedLogs
