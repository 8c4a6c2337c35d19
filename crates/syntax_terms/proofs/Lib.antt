-- in reading order
pub mod SequenceLemmas
pub mod Making
pub mod Stacks
