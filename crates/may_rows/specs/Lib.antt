pub mod Words
pub mod Joins
pub mod Met
pub mod Walk
pub mod Picks
pub mod Unpacks
pub mod Configures
pub mod Withdraws
