-- in reading order
pub mod Proper
pub mod Programs
pub mod Worked
