-- in reading order
pub mod Schedule
pub mod Round
pub mod Told
pub mod Listed
pub mod Correct
