-- in reading order
pub mod Rulings
pub mod Walks
