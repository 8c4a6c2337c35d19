-- in reading order
pub mod PendingLemmas
pub mod IntentLemmas
pub mod SameLemmas
pub mod ShowLemmas
pub mod FrozenLemmas
pub mod CountLemmas
pub mod ThawLemmas
