pub mod BeginLemmas
pub mod DriveLemmas
pub mod RunLemmas
pub mod EndLemmas
