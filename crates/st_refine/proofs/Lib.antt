pub mod Common
pub mod StateLemmas
pub mod LevelLists
pub mod Kept
pub mod InTime
pub mod SplitLemmas
pub mod RefinedLemmas
pub mod LentLemmas
pub mod OpeningLemmas
pub mod RowLemmas
pub mod StillLemmas
pub mod ReadLemmas
pub mod Laws
mod HeldLemmas
mod StartLemmas
