-- in reading order
pub mod Values
pub mod Strict
pub mod Prospects
pub mod Faces
pub mod Sights
pub mod Passed
