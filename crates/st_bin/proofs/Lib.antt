pub mod PlaceLemmas
pub mod ResultLaws
