-- in reading order
pub mod DemandLemmas
pub mod WantLemmas
pub mod CutLaws
