-- in reading order
pub mod Mapped
pub mod HistoryLemmas
pub mod NameLemmas
