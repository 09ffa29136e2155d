pub mod IndexChange
pub use Rattle.st_bits.specs.Bits
pub use Rattle.st_bits.specs.IndexWord
pub use Rattle.st_bits.specs.Indicators
