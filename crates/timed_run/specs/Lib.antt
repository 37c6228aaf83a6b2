pub mod Beginning
pub mod Moments
pub mod Ended
pub mod Links
pub mod Timed
pub mod Clocks
pub mod Path
