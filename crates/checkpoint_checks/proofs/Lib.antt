-- in reading order
pub mod SameLemmas
pub mod MapLemmas
pub mod NameLemmas
pub mod FreshLemmas
pub mod CellLemmas
pub mod LoopLemmas
pub mod BareLemmas
pub mod CallLemmas
pub mod HomeLemmas
pub mod OnceLemmas
pub mod PartLemmas
pub mod RunLemmas
pub mod ActivityLemmas
pub mod SoundLemmas
