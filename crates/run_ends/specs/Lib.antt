pub mod Ends
pub mod Reads
pub mod Spots
