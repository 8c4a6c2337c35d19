-- in reading order
pub mod Decoded
pub mod Shown
pub mod Groups
