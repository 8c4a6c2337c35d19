-- in reading order
pub mod Terms
pub mod Cells
