-- in reading order
pub mod Classes
pub mod Complete
pub mod Sendings
pub mod Looks
pub mod Probes
pub mod Walks
pub mod Cuts
pub mod Told
