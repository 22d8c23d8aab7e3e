pub mod Name
pub mod Plain
pub mod Shape
pub mod Valid
