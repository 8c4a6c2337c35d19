pub mod LineLemmas
pub mod SavedLemmas
