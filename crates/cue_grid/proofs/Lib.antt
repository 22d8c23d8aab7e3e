mod Prelude
pub mod Counting
pub mod Written
pub mod Faulty
pub mod Earliest
pub mod FirstFault
pub mod Tables
pub mod Numbering
pub mod Marking
pub mod Fits
pub mod Distinct
pub mod Placing
pub mod Ordered
