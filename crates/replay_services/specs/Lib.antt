-- in reading order
pub mod Heard
pub mod Listeners
pub mod Compares
pub mod Reports
