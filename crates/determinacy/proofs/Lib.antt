-- in reading order
pub mod OrderLemmas
pub mod RulingLemmas
pub mod WalkLemmas
pub mod DifferenceLemmas
