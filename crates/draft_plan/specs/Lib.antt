pub mod Wanted
pub mod Drafted
pub mod Wished
pub mod Follows
