pub mod Common
pub mod DigitLemmas
pub mod ListLemmas
pub mod LoopLemmas
pub mod PartLemmas
pub mod RecodeLemmas
pub mod ShapeLemmas
pub mod ResultLaws
