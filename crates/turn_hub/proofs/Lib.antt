pub mod TotalLemmas
pub mod NumberLemmas
pub mod ViewLemmas
pub mod TakingLemmas
pub mod GivingLemmas
pub mod SplittingLemmas
pub mod JoiningLemmas
pub mod EndLemmas
