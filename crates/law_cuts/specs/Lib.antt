-- in reading order
pub mod Wants
pub mod Cuts
pub mod Searches
