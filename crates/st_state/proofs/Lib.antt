pub mod Common
pub mod Kept
pub mod Leftmost
pub mod Placed
pub mod TurnedLemmas
