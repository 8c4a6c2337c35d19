-- in reading order
pub mod Command
pub mod Numbers
pub mod Settings
pub mod Wanted
pub mod Task
pub mod Lines
pub mod PlainWords
pub mod Shapes
pub mod Reserved
