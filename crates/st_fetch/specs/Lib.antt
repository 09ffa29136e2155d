pub mod HeldWords
pub mod Planned
pub mod Queue
pub mod Laws
