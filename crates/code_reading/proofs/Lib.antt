-- in reading order
pub mod SeenLemmas
pub mod DecodeLemmas
pub mod BehindLemmas
pub mod WalkLemmas
pub mod TermLemmas
pub mod GroupLemmas
pub mod ServiceLemmas
