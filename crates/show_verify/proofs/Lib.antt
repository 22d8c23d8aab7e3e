mod Prelude
pub mod CertificateLemmas
pub mod SecondLemmas
pub mod VerifyLemmas
