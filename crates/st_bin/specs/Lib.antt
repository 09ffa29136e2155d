pub mod BinaryResult
pub use Rattle.st_field.specs.Bases
pub use Rattle.st_field.specs.Digits
pub use Rattle.st_field.specs.Fields
pub use Rattle.st_field.specs.Numbers
pub use Rattle.st_field.specs.Results
