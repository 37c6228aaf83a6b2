pub mod LaneTimes
