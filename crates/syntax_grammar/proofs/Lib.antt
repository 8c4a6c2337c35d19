-- in reading order
pub mod Running
pub mod Complete
pub mod Parts
pub mod Wholes
pub mod Ends
pub mod Sound
pub mod Viable
pub mod Stepping
pub mod Depth
pub mod Shallow
