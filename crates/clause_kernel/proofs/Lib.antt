pub mod Words
pub mod Pairs
pub mod Meanings
pub mod Lanes
mod Blocks
