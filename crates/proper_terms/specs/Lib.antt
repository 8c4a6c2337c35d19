-- in reading order; the last two serve the code's own contracts
pub mod Fits
pub mod Laws
pub mod Tests
pub mod Walks
