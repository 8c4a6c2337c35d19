pub mod Faultless
pub mod PlainWords
pub mod PairLemmas
mod ReservedLemmas
