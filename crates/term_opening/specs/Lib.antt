-- in reading order
pub mod Naming
pub mod Opening
pub mod Named
pub mod Holding
