-- in reading order
pub mod Views
pub mod Reading
pub mod Searches
pub mod Held
pub mod Contexts
