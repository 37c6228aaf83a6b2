pub mod Again
pub mod AgainUnlaned
pub mod WholeLines
pub mod Cutting
pub mod Keeping
pub mod Stamps
