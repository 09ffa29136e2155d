pub mod Bytes
pub mod Blanks
pub mod Number
pub mod Pieces
pub mod Tables
pub mod Numerals
