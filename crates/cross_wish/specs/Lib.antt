pub mod Wish
pub mod Views
