-- in reading order
pub mod Standings
pub mod Lines
