-- in reading order
pub mod RowLemmas
pub mod ReadAlikeLemmas
pub mod NeedLemmas
pub mod IntentLemmas
pub mod StepLemmas
pub mod MoveLemmas
pub mod LongerLemmas
pub mod NotedLemmas
pub mod EntryLemmas
pub mod ToldLemmas
pub mod LeaseLemmas
