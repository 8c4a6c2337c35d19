-- in reading order
pub mod Effects
pub mod Schedules
pub mod Watches
pub mod Divergence
