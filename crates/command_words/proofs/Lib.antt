pub mod Rows
pub mod OptionLemmas
