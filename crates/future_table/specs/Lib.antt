pub mod Values
pub mod Confirmed
pub mod Numbers
pub mod Links
pub mod Components
pub mod Walks
