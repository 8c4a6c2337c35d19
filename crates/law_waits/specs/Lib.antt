-- in reading order
pub mod Courses
pub mod Waits
pub mod Laws
