mod Prelude
pub mod RehearsalLemmas
pub mod ScheduleLemmas
pub mod RehearseLemmas
pub mod UploadLemmas
pub mod UploadingLemmas
mod BegunLemmas
