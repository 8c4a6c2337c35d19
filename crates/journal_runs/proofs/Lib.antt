pub mod RunFacts
pub mod StepLemmas
pub mod ReduceLemmas
pub mod GrantLemmas
pub mod EntryLemmas
pub mod StandingLemmas
