pub mod TextLemmas
pub mod SightLemmas
pub mod BelowLemmas
pub mod ShowLemmas
pub mod WalkLemmas
pub mod ViewLemmas
