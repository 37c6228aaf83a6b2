pub mod Orders
pub mod Marks
pub mod Made
