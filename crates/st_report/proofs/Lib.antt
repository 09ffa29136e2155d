pub mod Common
pub mod FromEndLemmas
pub mod KeptLemmas
pub mod PairTables
pub mod Shifts
