pub mod AcrossLaws
pub mod GuardLaws
