pub mod Common
pub mod BitLists
pub mod Windows
pub mod WordFields
pub mod RegisterLaws
pub mod Shifts
