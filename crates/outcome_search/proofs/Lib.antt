-- in reading order
pub mod LogLemmas
pub mod PlaceLemmas
pub mod GrownLemmas
pub mod ClosedLemmas
pub mod SearchLemmas
