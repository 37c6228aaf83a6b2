pub mod Padded
pub mod Order
pub mod Runs
pub mod Grammar
pub mod Places
pub mod View
pub mod Laws
pub mod OrderLaws
