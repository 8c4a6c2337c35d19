-- in reading order
pub mod Traces
pub mod Laws
pub mod Progress
pub mod Pieces
pub mod Rows
