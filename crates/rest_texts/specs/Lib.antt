pub mod Said
pub mod Words
pub mod Rests
pub mod Afters
