-- in reading order
pub mod Numbers
pub mod Decisions
pub mod Sights
pub mod Groups
pub mod Asks
pub mod Redexes
