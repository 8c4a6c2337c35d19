-- in reading order
pub mod Hashed
pub mod Names
pub mod Numbered
pub mod Changes
pub mod Records
pub mod Passings
pub mod Holders
pub mod Kept
