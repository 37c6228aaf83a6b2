pub mod Binary
pub mod Meets
pub mod Excludes
pub mod Names
pub mod Encoding
pub mod Clear
pub mod Laws
pub mod Paragraphs
