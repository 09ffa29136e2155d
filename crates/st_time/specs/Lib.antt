pub mod Shown
pub use Rattle.st_report.specs.Line
