-- in reading order
pub mod States
pub mod Activities
