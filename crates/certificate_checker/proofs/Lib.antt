mod Prelude
pub mod Parts
pub mod Folds
pub mod Faults
pub mod Letters
pub mod Heads
pub mod Lines
pub mod Texts
pub mod Verdicts
pub mod Few
pub mod Bytes
