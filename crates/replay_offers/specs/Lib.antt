-- in reading order
pub mod Logs
pub mod Entries
pub mod Programs
pub mod Replays
pub mod Offered
