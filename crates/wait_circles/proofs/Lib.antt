pub mod WalkLemmas
pub mod FoundLemmas
pub mod WhyLemmas
