-- in reading order
pub mod OutLemmas
pub mod CoreLemmas
pub mod SettleLemmas
pub mod RowLemmas
pub mod TurnLemmas
