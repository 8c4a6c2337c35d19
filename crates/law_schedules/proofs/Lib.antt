pub mod EffectLemmas
pub mod RestLemmas
pub mod WokenLemmas
pub mod LeastLemmas
pub mod RowLemmas
pub mod DivergenceLemmas
pub mod ReadLemmas
