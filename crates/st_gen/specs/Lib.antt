pub mod Deck
pub use Rattle.st_text.specs.Bytes
