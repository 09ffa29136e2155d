pub mod Common
pub mod Filled
pub mod FrontLemmas
pub mod Hexadecimal
pub mod ListLemmas
pub mod NumberLemmas
pub mod PieceLemmas
pub mod TableLemmas
