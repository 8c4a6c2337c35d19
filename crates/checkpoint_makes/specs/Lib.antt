-- in reading order
pub mod Later
pub mod Objects
pub mod Cells
pub mod Parcels
pub mod Terms
