-- in reading order
pub mod RequestLemmas
pub mod SendingLemmas
pub mod ServiceLemmas
pub mod LookLemmas
pub mod WalkLemmas
pub mod ProbeLemmas
pub mod CutLemmas
pub mod EndLemmas
pub mod CompleteLemmas
