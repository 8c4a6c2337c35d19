pub mod NumberLemmas
pub mod MarkedLemmas
pub mod WaitingLemmas
pub mod RankLemmas
