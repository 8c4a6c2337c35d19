pub mod NameSets
pub mod Joined
pub mod Methods
pub mod Repeating
pub mod Arities
pub mod Laws
pub mod Firsts
pub mod PlaceLemmas
