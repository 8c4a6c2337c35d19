pub mod Firsts
pub mod Marks
pub mod Ticks
pub mod Lanes
