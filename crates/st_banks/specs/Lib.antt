pub mod Bank
pub mod Delay
pub mod DelayAnswers
pub mod Laws
pub use Rattle.st_bits.specs.Storage
