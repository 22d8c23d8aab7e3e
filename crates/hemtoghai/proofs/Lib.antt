mod Prelude
pub mod WordLemmas
pub mod AnswerLemmas
pub mod MarkLemmas
pub mod BegunLemmas
