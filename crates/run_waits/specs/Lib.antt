-- in reading order
pub mod Targets
pub mod Books
pub mod Kept
pub mod Explains
pub mod Cuts
pub mod Entries
pub mod Turns
pub mod Chains
pub mod Searches
pub mod Reports
