-- in reading order
pub mod Labels
pub mod Wanted
