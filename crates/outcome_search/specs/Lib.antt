-- in reading order
pub mod Ends
pub mod Found
