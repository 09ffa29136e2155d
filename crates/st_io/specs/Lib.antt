pub mod Count
pub mod Input
pub mod Output
pub mod Memory
pub mod Devices
pub mod Lines
pub mod Event
