mod Prelude
pub mod BlankLemmas
pub mod TextLemmas
