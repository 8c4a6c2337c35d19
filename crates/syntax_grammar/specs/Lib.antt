-- in reading order
pub mod Nodes
pub mod Signs
pub mod Grammar
pub mod Programs
pub mod States
pub mod Closings
pub mod Changes
pub mod Machine
pub mod Depth
