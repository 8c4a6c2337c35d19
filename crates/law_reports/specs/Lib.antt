-- in reading order
pub mod Laws
pub mod Depths
