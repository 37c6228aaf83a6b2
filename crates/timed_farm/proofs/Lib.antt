pub mod Stays
pub mod Turns
pub mod HeldUp
