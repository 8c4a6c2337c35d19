pub mod Activities
pub mod Pieces
pub mod Redexes
