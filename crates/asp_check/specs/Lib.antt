-- in reading order; the last four serve the code's own contracts
pub mod Placed
pub mod NameFaults
pub mod ArityFaults
pub mod Faults
pub mod NoPlaces
pub mod ReadableProp
pub mod Least
pub mod Sets
pub mod Walk
