-- in reading order
pub mod ItemLemmas
pub mod NumberLemmas
pub mod ListLemmas
pub mod LineLemmas
