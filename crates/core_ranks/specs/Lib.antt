-- in reading order
pub mod Numbers
pub mod Marked
pub mod Waiting
pub mod Ranks
