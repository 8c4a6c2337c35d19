pub mod ActivityLemmas
pub mod CellLemmas
pub mod LineLemmas
pub mod RedexLemmas
pub mod ServiceLemmas
