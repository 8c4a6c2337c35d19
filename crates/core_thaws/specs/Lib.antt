-- in reading order
pub mod Thawed
pub mod Seating
pub mod Holders
pub mod Telling
