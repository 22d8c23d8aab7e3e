pub mod Rows
pub mod ReportLemmas
