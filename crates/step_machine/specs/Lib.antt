-- in reading order
pub mod Sequences
pub mod Items
pub mod Calls
pub mod Stacks
pub mod Standing
pub mod Views
pub mod Rows
pub mod Services
pub mod Spreads
pub mod Sites
