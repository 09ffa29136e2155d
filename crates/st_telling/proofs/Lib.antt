pub mod Common
pub mod Dumps
pub mod Runs
pub mod Snapshots
