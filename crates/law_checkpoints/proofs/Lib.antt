-- in reading order
pub mod LookLemmas
pub mod FirstLemmas
pub mod TermLemmas
pub mod StandingLemmas
pub mod ServiceLemmas
pub mod MainLemmas
pub mod ObjectLemmas
pub mod KeptLemmas
pub mod FreezeLemmas
pub mod OrderLemmas
pub mod AgainLemmas
pub mod ResumeLemmas
