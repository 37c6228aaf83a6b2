pub mod Needed
pub mod Opened
pub mod Sums
pub mod Effects
pub mod Present
