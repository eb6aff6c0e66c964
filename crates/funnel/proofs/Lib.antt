pub mod Places
pub mod Kept
pub mod KeptSending
pub mod KeptTaking
pub mod EveryState
mod WorkedTurns
pub mod OrderLemmas
pub mod RuleSteps
pub mod LiveSteps
pub mod PassSteps
pub mod NewPorts
mod TurnsLemmas
mod WordLemmas
