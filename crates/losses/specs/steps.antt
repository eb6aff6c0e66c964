pub mod DecoderSteps
pub mod Collecting
pub mod FollowingRuns
pub mod Taking
