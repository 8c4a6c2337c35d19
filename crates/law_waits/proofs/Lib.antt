-- in reading order
pub mod CourseLemmas
pub mod HolderLemmas
pub mod IntentLemmas
pub mod CauseLemmas
