pub mod Axes
pub mod Elements
pub mod Laws
pub mod Statuses
pub mod WellFormedElements
