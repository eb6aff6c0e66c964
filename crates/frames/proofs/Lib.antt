pub mod FrameLemmas
pub mod Places
pub mod ScatteredLemmas
mod SpanLemmas
pub mod TakenLemmas
pub mod CountedLemmas
pub mod AmidLemmas
mod PassageLemmas
mod Seeing
mod KnownLemmas
pub mod FramedLemmas
mod PassedOver
mod GuidedTakenLemmas
mod ChosenSpans
mod KnownHarts
mod SpanTexts
