-- in reading order
pub mod Pending
pub mod Same
pub mod Frozen
pub mod Thawed
