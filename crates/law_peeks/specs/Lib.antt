-- in reading order
pub mod Needs
pub mod Moves
pub mod Noted
pub mod Commits
pub mod Events
pub mod Leases
