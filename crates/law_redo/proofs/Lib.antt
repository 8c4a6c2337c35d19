-- in reading order
pub mod ReducedLemmas
pub mod AskingLemmas
