pub mod Connective
pub mod Connection
pub use Rattle.st_bits.specs.Bits
pub use Rattle.st_field.specs.Indicators
pub use Rattle.st_field.specs.Results
