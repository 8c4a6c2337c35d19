-- in reading order
pub mod Shapes
