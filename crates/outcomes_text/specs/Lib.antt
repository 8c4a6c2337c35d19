-- in reading order
pub mod Outcomes
pub mod Told
pub mod Tallies
