-- in reading order
pub mod Alike
pub mod Runs
pub mod Families
pub mod Complete
pub mod Requests
