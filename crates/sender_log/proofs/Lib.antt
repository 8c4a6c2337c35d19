-- in reading order
pub mod WordLemmas
pub mod OrderLemmas
pub mod ReadLemmas
pub mod LinesLemmas
pub mod LastLemmas
pub mod StepLemmas
pub mod AnswerLemmas
