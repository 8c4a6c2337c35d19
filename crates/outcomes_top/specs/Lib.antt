-- in reading order
pub mod Families
pub mod Given
pub mod Correct
pub mod Endings
pub mod Joined
pub mod Surveys
