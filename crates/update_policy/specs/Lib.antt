pub mod Budgets
pub mod Strategies
pub mod Plans
pub mod Scripts
