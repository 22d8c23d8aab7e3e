pub mod Rehearsed
pub mod Texts
