pub mod Outputs
pub mod Published
pub mod Picked
