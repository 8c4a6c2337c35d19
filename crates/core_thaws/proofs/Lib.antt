pub mod HolderLemmas
pub mod ToldLemmas
pub mod SeatLemmas
