pub mod HeardLemmas
pub mod ListenerLemmas
pub mod EntryLemmas
pub mod ServicesLemmas
pub mod CompareLemmas
pub mod ReportLemmas
