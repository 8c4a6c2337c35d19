pub mod Needs
pub mod Operands
pub mod Peeks
