-- in reading order
pub mod Journal
pub mod Verdicts
pub mod Leases
pub mod Cores
pub mod Begin
pub mod Lending
pub mod Returning
pub mod Handing
pub mod Changes
pub mod Commits
pub mod Arrivals
pub mod Deliveries
pub mod Next
pub mod Targets
pub mod Due
