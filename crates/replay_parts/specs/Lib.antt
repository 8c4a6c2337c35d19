-- in reading order
pub mod Roster
pub mod Bounds
pub mod Numbers
pub mod Ready
pub mod Notes
pub mod Listening
pub mod Rows
