pub mod Slots
pub mod Held
pub mod Needed
pub mod Changes
pub mod Present
