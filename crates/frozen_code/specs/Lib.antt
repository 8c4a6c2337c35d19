-- in reading order
pub mod Named
pub mod Held
pub mod Objects
pub mod Restoring
