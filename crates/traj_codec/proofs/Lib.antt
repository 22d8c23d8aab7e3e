mod Prelude
pub mod Sizes
pub mod SpellingLemmas
pub mod PositionLemmas
pub mod ReadingLemmas
pub mod DecodeLemmas
pub mod JoinedLemmas
pub mod GroupLemmas
pub mod StepLemmas
