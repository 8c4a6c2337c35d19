-- in reading order
pub mod TableLemmas
pub mod Endings
pub mod Lexing
pub mod WordLemmas
pub mod LexerLemmas
pub mod Ordering
