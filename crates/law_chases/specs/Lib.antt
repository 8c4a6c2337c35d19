pub mod Walks
pub mod Chases
pub mod Fills
