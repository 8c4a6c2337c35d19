-- in reading order
pub mod CountLemmas
pub mod StopLemmas
pub mod RunLemmas
