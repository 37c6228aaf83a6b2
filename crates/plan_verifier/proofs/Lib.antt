pub mod Reach
pub mod Steps
pub mod Branching
pub mod Walks
pub mod Promises
pub mod Messages
mod OneVerdict
pub mod Crossing
mod SideBySide
mod ReadyLaws
