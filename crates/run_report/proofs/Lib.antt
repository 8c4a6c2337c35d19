pub mod EndLemmas
pub mod PassedLemmas
pub mod SummaryLemmas
