-- in reading order
pub mod HeadLemmas
pub mod WalkLemmas
pub mod StepLemmas
pub mod FitLemmas
