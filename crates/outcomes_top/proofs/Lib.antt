pub mod FamilyLemmas
pub mod SoughtLemmas
pub mod AlikeLemmas
pub mod JoinedLemmas
pub mod EndsLemmas
pub mod ReadLemmas
pub mod GivenLemmas
