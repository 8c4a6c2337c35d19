-- in reading order
pub mod Ranked
pub mod Keeping
pub mod Runs
pub mod Receivers
pub mod Owed
pub mod Verdicts
pub mod Outcomes
pub mod Readings
pub mod Commits
pub mod Events
