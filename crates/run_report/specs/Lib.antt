pub mod Pieces
pub mod Ends
pub mod Summary
pub mod Rulings
