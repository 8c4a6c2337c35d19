-- in reading order
pub mod Advances
pub mod Called
pub mod Local
pub mod Activities
pub mod Starting
pub mod Shown
pub mod Standings
pub mod Places
