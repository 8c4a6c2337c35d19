-- in reading order
pub mod Clear
pub mod Actors
pub mod Effects
pub mod Outlook
pub mod Asking
pub mod Found
pub mod Running
pub mod Stances
pub mod Passing
pub mod Parts
