-- in reading order
pub mod First
pub mod Gathering
pub mod EndOfRun
pub mod Runs
pub mod Cores
pub mod Plans
pub mod Calls
pub mod Chosen
pub mod Stopping
pub mod Bringing
pub mod Delivering
pub mod Over
pub mod PlannedEnds
pub mod Frozen
pub mod Thawing
pub mod Renewals
