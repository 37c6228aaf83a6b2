pub mod Shown
pub mod Loads
pub mod LaneMoves
pub mod Reaching
pub mod Records
pub mod Bounds
pub mod Laws
