pub mod Notes
pub mod LaneNotes
pub mod Stuck
pub mod Waits
