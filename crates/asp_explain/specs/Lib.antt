-- in reading order
pub mod Words
pub mod Tasks
pub mod Shapes
pub mod Refusals
pub mod Seen
pub mod Given
pub mod OfRun
pub mod OfEvents
pub mod OfPicture
pub mod OfOther
pub mod OfUntil
pub mod Endings
pub mod Written
