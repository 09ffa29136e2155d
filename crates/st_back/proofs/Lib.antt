pub mod Common
pub mod UndoneLemmas
pub mod StepLemmas
pub mod RingLemmas
pub mod LawLemmas
pub mod ManyLemmas
pub mod Laws
