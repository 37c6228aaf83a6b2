pub mod Drawn
pub mod Imported
pub mod Made
pub mod Notes
pub mod Rewriting
