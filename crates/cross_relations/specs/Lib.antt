pub mod Sides
pub mod Senses
pub mod Decoded
pub mod Provides
pub mod Hits
