mod Prelude
mod ReportLemmas
pub mod CertifyLemmas
pub mod CompileLemmas
mod PlayLemmas
