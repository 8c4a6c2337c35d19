-- in reading order
pub mod Remarks
pub mod Texts
pub mod Found
pub mod Told
pub mod Events
pub mod EventRuns
pub mod EventsHeard
pub mod Orders
pub mod Differences
pub mod OrderKept
pub mod Large
