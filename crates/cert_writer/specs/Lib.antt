pub mod Carried
pub mod Lines
pub mod NewRows
pub mod Sending
pub mod Written
