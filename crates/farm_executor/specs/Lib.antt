pub mod Ends
pub mod LaneEnds
pub mod Publications
pub mod FarmRuns
pub mod Seated
pub mod Played
pub mod Turned
