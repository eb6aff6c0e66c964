pub mod AllMadeLemmas
pub mod FileLemmas
pub mod IllegalLemmas
pub mod LastLemmas
pub mod MadeLemmas
pub mod PlacesLemmas
pub mod ReadingLemmas
pub mod WorkLemmas
