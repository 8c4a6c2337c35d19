-- in reading order
pub mod Answers
pub mod Lines
