pub mod DecidingTests
pub mod JudgingLemmas
pub mod FollowOnLemmas
pub mod ReasonLemmas
pub mod CheckLemmas
pub mod FaultLemmas
pub mod StepLemmas
pub mod EventLemmas
