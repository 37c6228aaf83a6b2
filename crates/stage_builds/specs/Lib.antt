pub mod Kinds
pub mod Profiles
