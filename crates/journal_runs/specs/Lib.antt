-- in reading order
pub mod Runs
pub mod Grants
pub mod Receivers
pub mod Stepping
pub mod Reducing
