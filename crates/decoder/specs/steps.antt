-- What only the private functions of this crate cite: how its code finds what the definitions beside say.
pub mod Faults
pub mod Leads
pub mod Longest
pub mod Walks
pub mod WalkSteps
pub mod Segments
pub mod StraightLines
pub mod Retracing
pub mod WritingAsFound
pub mod Stretches
pub mod Rests
pub mod Reporting
pub mod Planning
