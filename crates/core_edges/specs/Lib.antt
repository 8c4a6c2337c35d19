-- in reading order
pub mod Futures
pub mod Strategies
pub mod Labels
pub mod Answers
pub mod Passing
pub mod Given
pub mod Deliveries
pub mod Due
