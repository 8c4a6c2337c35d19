-- in reading order
pub mod BoxLemmas
pub mod IntentLemmas
pub mod AlikeLemmas
pub mod OutcomeLemmas
pub mod EntryLemmas
pub mod ApartLemmas
pub mod StateLemmas
pub mod RunLemmas
pub mod WithinLemmas
pub mod ClassLaws
pub mod RequestLemmas
