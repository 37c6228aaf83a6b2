pub mod Named
pub mod Continuation
pub mod Left
pub mod Chain
pub mod Laws
pub mod Example
