pub mod Escapes
pub mod Texts
