pub mod Standing
pub mod Settled
pub mod Answer
