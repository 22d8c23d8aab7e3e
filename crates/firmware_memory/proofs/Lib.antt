pub mod Storing
pub mod Unanswered
pub mod CurveLemmas
