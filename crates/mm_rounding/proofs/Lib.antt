mod Prelude
pub mod Millimetres
pub mod Curves
pub mod Elements
