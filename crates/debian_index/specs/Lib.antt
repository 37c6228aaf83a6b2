pub mod Index
pub mod Rows
pub mod Given
pub mod View
pub mod Names
pub mod Tuples
