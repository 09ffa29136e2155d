pub mod Common
pub mod Weights
pub mod TableRows
pub mod Places
