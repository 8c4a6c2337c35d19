pub mod EntryLemmas
pub mod ReportLemmas
