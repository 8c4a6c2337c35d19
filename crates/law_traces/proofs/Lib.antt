-- in reading order
pub mod StandingLemmas
pub mod LineLemmas
