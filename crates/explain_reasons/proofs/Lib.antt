pub mod FirstLaws
pub mod HeldLists
pub mod HasReason
pub mod Pinned
pub mod Costs
