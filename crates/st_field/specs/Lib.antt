pub mod Indicators
pub mod Numbers
pub mod Fields
pub mod Digits
pub mod Results
pub mod Comparisons
pub mod Bases
