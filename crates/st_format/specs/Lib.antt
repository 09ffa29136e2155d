pub mod Halves
pub mod Operations
pub mod Validity
pub mod Formats
pub mod Laws
