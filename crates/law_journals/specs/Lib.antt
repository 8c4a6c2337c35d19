-- in reading order
pub mod Entries
pub mod Budgets
pub mod EdgesKept
pub mod Numbered
pub mod Leases
pub mod Entered
pub mod Growing
pub mod Fresh
pub mod Runs
