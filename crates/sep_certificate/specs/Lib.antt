pub mod Certificates
pub mod Texts
pub mod Readings
pub mod Steps
pub mod Disjoint
pub mod Laws
