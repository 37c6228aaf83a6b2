pub mod Schedule
pub mod Words
