-- in reading order
pub mod Progress
pub mod Answers
pub mod Last
