-- in reading order
pub mod Words
pub mod Shapes
