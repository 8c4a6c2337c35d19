-- in reading order
pub mod Running
pub mod Activities
pub mod Files
