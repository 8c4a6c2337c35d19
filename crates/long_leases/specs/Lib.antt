-- in reading order
pub mod LongLeases
pub mod Renewing
