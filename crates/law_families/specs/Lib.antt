-- in reading order
pub mod Families
pub mod Complete
