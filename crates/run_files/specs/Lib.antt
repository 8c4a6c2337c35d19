-- in reading order
pub mod Stops
pub mod Files
pub mod Made
pub mod Resumed
