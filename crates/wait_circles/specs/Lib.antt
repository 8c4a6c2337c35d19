-- in reading order
pub mod Ways
pub mod Walks
pub mod Whys
pub mod Entries
pub mod Targets
