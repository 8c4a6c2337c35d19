-- in reading order
pub mod Population
pub mod Giving
pub mod Deliveries
pub mod Reached
