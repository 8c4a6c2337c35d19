-- in reading order
pub mod Slots
pub mod Closed
pub mod Free
pub mod Parts
pub mod Compiled
pub mod Added
