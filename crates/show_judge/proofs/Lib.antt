mod Prelude
pub mod SlotLemmas
pub mod RefusalLemmas
pub mod PlanLemmas
pub mod TextLemmas
pub mod VerbLemmas
pub mod AnswerLemmas
pub mod FewLemmas
pub mod ReadLemmas
pub mod RunLemmas
pub mod HeadlineLemmas
pub mod UnreadLemmas
pub mod JudgedLemmas
pub mod DriverLemmas
