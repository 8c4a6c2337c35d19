-- in reading order
pub mod LogLemmas
pub mod FoundLemmas
pub mod OfferLemmas
