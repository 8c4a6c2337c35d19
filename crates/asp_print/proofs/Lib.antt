-- in reading order
pub mod PieceLemmas
pub mod NodeLemmas
pub mod WritingLemmas
pub mod GrammarLemmas
pub mod MovingLemmas
pub mod GrammarMoves
pub mod PlaceLemmas
pub mod PrintingLaws
