pub mod EndsLemmas
pub mod EventLemmas
pub mod GivenLemmas
pub mod TellLemmas
