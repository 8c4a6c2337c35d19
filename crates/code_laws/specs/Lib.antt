-- in reading order
pub mod Places
pub mod Nodes
pub mod Shown
pub mod Splitting
pub mod Laws
