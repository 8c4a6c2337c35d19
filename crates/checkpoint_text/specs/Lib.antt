-- in reading order
pub mod Items
pub mod Lines
pub mod Reading
pub mod Writable
pub mod Laws
pub mod Rows
pub mod Writing
