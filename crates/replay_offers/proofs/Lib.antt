pub mod LogLemmas
pub mod EntryLemmas
pub mod RunLemmas
pub mod OfferLemmas
