-- in reading order
pub mod PartsLemmas
pub mod DigitLemmas
pub mod NameLemmas
pub mod LineLemmas
pub mod ReadingLemmas
pub mod StateLemmas
pub mod DepthLemmas
