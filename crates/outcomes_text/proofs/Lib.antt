pub mod SeenLemmas
pub mod TallyLemmas
pub mod TextLemmas
