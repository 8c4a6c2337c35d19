-- in reading order
pub mod Logs
pub mod Found
