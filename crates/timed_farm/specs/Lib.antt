pub mod Rests
pub mod Held
