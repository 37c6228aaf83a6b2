pub mod Passes
pub mod Boards
pub mod Leading
pub mod Turns
pub mod Ends
