-- in reading order
pub mod TermLemmas
