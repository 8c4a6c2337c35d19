-- in reading order
pub mod Shapes
pub mod Answers
