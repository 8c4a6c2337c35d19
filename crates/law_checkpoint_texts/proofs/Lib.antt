-- in reading order
pub mod NumberLemmas
pub mod SureLemmas
pub mod TermLemmas
pub mod NodeLemmas
pub mod ContextLemmas
pub mod ValueLemmas
pub mod LineLemmas
pub mod ShapeLemmas
pub mod FileLemmas
