-- in reading order
pub mod Deliveries
pub mod Communications
pub mod Journals
pub mod Edges
pub mod Passing
pub mod Owed
