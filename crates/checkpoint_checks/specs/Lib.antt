-- in reading order
pub mod Maps
pub mod Names
pub mod Homes
pub mod Standing
pub mod Cells
pub mod Activities
pub mod Whole
pub mod Within
pub mod Laws
