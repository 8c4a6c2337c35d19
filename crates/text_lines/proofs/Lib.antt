-- in reading order
pub mod PartsLemmas
pub mod NumberLemmas
pub mod FoundLemmas
pub mod LineLemmas
