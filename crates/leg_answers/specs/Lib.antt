pub mod Stories
pub mod Joins
