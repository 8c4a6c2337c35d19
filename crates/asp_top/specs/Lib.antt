-- in reading order
pub mod Seen
pub mod Programs
pub mod Rulings
pub mod Comparisons
pub mod Resumes
pub mod Correct
pub mod Refusals
pub mod Endings
pub mod Statuses
pub mod Expected
pub mod Ended
pub mod Stops
pub mod Ready
pub mod Replayed
pub mod Traced
pub mod Resumed
