pub mod AnswerLemmas
pub mod PassingLemmas
pub mod StrategyLemmas
pub mod NoteLemmas
pub mod GivenLemmas
pub mod LabelLemmas
