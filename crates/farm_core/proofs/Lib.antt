pub mod Waits
pub mod Taken
pub mod Stepped
pub mod Events
pub mod Opened
pub mod Views
pub mod Played
pub mod Picked
