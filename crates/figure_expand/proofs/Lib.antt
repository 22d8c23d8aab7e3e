mod Prelude
pub mod Eased
pub mod Reach
pub mod Unfit
pub mod Curves
pub mod Pieces
pub mod Fitting
pub mod Axes
pub mod Unmoved
pub mod Rows
