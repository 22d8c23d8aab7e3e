mod Prelude
pub mod SentLemmas
pub mod TextLemmas
pub mod FoundLemmas
pub mod TakenLemmas
pub mod ToldLemmas
pub mod GoingLemmas
pub mod CutLemmas
pub mod MarkLemmas
pub mod WaitingLemmas
pub mod CopiedLemmas
pub mod PlaceLemmas
pub mod AskingLemmas
pub mod AloneLemmas
pub mod MarkerLaws
pub mod ReadingLemmas
pub mod PartLemmas
pub mod ByteLemmas
mod Walks
