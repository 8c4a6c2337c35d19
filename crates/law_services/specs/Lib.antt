-- in reading order
pub mod Services
pub mod Correct
pub mod Told
