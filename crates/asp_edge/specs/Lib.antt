-- in reading order
pub mod Told
pub mod Causes
pub mod History
pub mod MemorySource
pub mod MemorySink
pub mod System
