-- in reading order
pub mod Texts
pub mod Files
pub mod Rows
