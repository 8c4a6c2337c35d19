-- in reading order
pub mod Systems
pub mod SystemRules
pub mod Reached
pub mod Kept
pub mod Steps
pub mod Linked
pub mod Closed
pub mod Sound
pub mod Waking
pub mod Commuting
pub mod Replays
pub mod Joins
