pub mod Driven
pub mod Questions
pub mod Asking
pub mod DoneBefore
pub mod Replies
pub mod LaneDesks
pub mod LaneStages
pub mod Laws
