pub mod Items
pub mod Archive
pub mod Odds
pub mod Fates
pub mod Rest
pub mod Words
pub mod Pending
