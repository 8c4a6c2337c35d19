pub mod Reached
pub mod Copied
pub mod Leaves
