-- in reading order
pub mod Misfits
mod ExampleLemmas
