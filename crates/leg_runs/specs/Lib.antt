pub mod Listed
pub mod Legs
pub mod Reads
pub mod Fits
