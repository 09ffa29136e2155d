pub mod Common
pub mod ReaderLemmas
pub mod PrinterLemmas
pub mod CardLemmas
pub mod Laws
