-- in reading order
pub mod Activities
pub mod Ends
