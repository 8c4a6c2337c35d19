pub mod Traced
