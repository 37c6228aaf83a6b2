pub mod ForTargets
