pub mod Common
pub mod HeldLemmas
pub mod OldestFirst
pub mod Windows
mod Shifted
pub mod Laws
