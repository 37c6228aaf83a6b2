pub mod LaneNotes
pub mod Onward
pub mod Follow
pub mod Following
pub mod Laws
pub mod Orders
pub mod Standings
