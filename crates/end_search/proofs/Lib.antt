-- in reading order
pub mod GrownLemmas
pub mod SearchLemmas
