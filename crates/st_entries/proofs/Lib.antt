pub mod Bytes
pub mod Executing
pub mod Forward
pub mod Laws
pub mod Sorting
