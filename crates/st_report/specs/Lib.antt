pub mod Line
pub mod Listing
pub use Rattle.st_text.specs.Blanks
pub use Rattle.st_text.specs.Bytes
pub use Rattle.st_text.specs.Numerals
