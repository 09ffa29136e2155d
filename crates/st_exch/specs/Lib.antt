pub mod Reader
pub mod Printer
pub mod Laws
pub use Rattle.st_bits.specs.Bits
pub use Rattle.st_card.specs.Cards
pub use Rattle.st_text.specs.Blanks
pub use Rattle.st_text.specs.Bytes
