-- in reading order
pub mod NumberLemmas
pub mod CodecLemmas
pub mod TermLemmas
pub mod ObjectLemmas
pub mod NodeLemmas
pub mod ContextLemmas
pub mod ValueLemmas
pub mod WordLemmas
pub mod LineLemmas
pub mod WritingLemmas
pub mod ObjectWriting
