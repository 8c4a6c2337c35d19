pub mod NamedLemmas
pub mod HeldLemmas
pub mod ProperLemmas
pub mod RestoreLemmas
pub mod ObjectLemmas
