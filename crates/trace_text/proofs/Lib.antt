-- in reading order
pub mod WriteLemmas
pub mod ReadLemmas
pub mod LineLemmas
pub mod PieceLemmas
