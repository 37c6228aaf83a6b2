pub mod Below
pub mod Fields
pub mod Hazards
pub mod NoteLaws
pub mod OnStuck
