-- in reading order
pub mod Refused
pub mod Others
