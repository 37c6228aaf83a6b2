pub mod Chroot
pub mod Fields
pub mod Head
pub mod Lists
pub mod Recipe
pub mod Targets
pub mod Wish
