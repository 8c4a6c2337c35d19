-- in reading order
pub mod Bytes
pub mod Tokens
pub mod Texts
pub mod Cursors
pub mod Levels
pub mod WalkShapes
pub mod Ordered
