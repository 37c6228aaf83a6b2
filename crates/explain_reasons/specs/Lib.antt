pub mod Listed
pub mod Reasons
pub mod Cost
pub mod Builder
pub mod Pins
pub mod Largest
pub mod Removals
