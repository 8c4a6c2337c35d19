-- in reading order
pub mod Lookups
pub mod Sound
pub mod Standing
pub mod Order
pub mod Laws
pub mod Saved
pub mod Resumed
