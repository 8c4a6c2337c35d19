pub mod FewLemmas
pub mod NoteLemmas
pub mod NumberLemmas
pub mod OldestLemmas
pub mod PendingLemmas
pub mod PlaceLemmas
pub mod QueueLemmas
pub mod ShapeLemmas
