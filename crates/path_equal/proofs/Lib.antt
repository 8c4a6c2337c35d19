pub mod ReadLemmas
pub mod ViewLemmas
pub mod SearchLemmas
pub mod HeldLemmas
pub mod ContextLemmas
pub mod CallLemmas
pub mod StackLemmas
