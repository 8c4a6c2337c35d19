-- in reading order
pub mod SlotLemmas
pub mod FreeLemmas
pub mod ClosedLemmas
pub mod ClosedLaws
pub mod SizeLemmas
pub mod NodeLemmas
pub mod PartLemmas
pub mod ScopeLemmas
pub mod AddLemmas
pub mod MethodLemmas
pub mod MarkLemmas
pub mod ProgramLemmas
