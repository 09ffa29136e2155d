pub mod Common
pub mod Joins
pub mod MemoryLemmas
pub mod Writing
pub mod Progress
