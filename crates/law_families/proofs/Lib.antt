-- in reading order
pub mod CutLemmas
pub mod TurnLemmas
pub mod OfferLemmas
pub mod InsideLemmas
pub mod FamilyLaws
