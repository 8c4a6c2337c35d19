pub mod MadeLemmas
pub mod ObjectLemmas
pub mod RunningLemmas
pub mod HeldLemmas
