-- in reading order
pub mod States
pub mod Views
pub mod Sights
pub mod Texts
pub mod Walks
pub mod Below
