-- in reading order
pub mod Reduced
