-- in reading order
pub mod Renewals
