pub mod Entries
pub mod Laws
pub mod Said
pub mod HeadText
pub mod Finding
pub mod Resuming
