-- in reading order
pub mod PickLemmas
pub mod BareLemmas
pub mod BothLemmas
pub mod SameLemmas
pub mod CoverLemmas
pub mod EndLemmas
pub mod OutcomeLemmas
pub mod ToldLemmas
