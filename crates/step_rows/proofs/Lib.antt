pub mod ReadLemmas
pub mod NumberLemmas
pub mod AskLemmas
pub mod GroupLemmas
