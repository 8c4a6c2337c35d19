-- in reading order
pub mod Counts
pub mod Queues
pub mod Actors
pub mod Values
pub mod Parts
