pub mod DigitLists
pub mod DecimalOperand
pub mod DecimalResult
pub use Rattle.st_field.specs.Bases
pub use Rattle.st_field.specs.Fields
pub use Rattle.st_field.specs.Results
