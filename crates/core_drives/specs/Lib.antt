-- in reading order
pub mod Steps
pub mod Driving
pub mod Driven
