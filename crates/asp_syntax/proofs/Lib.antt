-- in reading order
pub mod First
pub mod Only
pub mod Feeding
