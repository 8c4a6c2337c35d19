pub mod PlaceLemmas
pub mod SpotLemmas
pub mod EnterLemmas
pub mod ValueLemmas
