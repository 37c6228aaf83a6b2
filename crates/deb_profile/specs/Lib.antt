pub mod Laws
pub mod Restriction
pub mod Reduction
pub mod WordList
