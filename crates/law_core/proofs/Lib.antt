-- in reading order
pub mod OperandLemmas
pub mod RankLemmas
pub mod RunLemmas
pub mod ReceiverLemmas
pub mod OwedLemmas
pub mod VerdictLemmas
pub mod OutcomeLemmas
pub mod ReadingLemmas
pub mod LocalLemmas
pub mod NewcomerLemmas
pub mod CommitLemmas
pub mod EventLemmas
