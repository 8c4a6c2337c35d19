-- in reading order
pub mod Numbers
pub mod Sharing
pub mod Seats
