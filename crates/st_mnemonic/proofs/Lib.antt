pub mod Common
pub mod Apart
pub mod Digits
pub mod FirstPieces
