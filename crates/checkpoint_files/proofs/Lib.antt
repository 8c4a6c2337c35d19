-- in reading order
pub mod RunningLemmas
pub mod FileLemmas
