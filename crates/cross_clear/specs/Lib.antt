pub mod Across
pub mod Guard
