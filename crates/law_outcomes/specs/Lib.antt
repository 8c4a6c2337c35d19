-- in reading order
pub mod Heads
pub mod Texts
pub mod Outcomes
pub mod Programs
