-- in reading order
pub mod LeaseRows
pub mod Rows
pub mod Desks
pub mod Turns
pub mod Settling
pub mod Worked
