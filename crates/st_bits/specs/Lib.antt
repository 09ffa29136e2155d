pub mod Bits
pub mod IndexWord
pub mod Registers
pub mod Storage
pub mod Indicators
