pub mod Views
pub mod Serials
pub mod Seats
pub mod Calls
pub mod Rule
pub mod Steps
pub mod History
