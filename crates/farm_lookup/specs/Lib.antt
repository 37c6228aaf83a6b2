pub mod Candidates
pub mod Unmet
