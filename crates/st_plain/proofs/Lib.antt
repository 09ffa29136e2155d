pub mod Common
pub mod KnownLemmas
pub mod RowLemmas
pub mod LookLemmas
pub mod SideLemmas
pub mod UseLemmas
pub mod Looked
pub mod Laws
