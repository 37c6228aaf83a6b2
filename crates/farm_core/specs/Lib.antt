pub mod Lanes
pub mod Turns
pub mod Farm
pub mod Steps
pub mod Endings
