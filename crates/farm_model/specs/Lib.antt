pub mod Below
pub mod Universe
pub mod Packages
pub mod Chroot
pub mod Traps
pub mod TrapText
pub mod Sound
pub mod Common
