pub mod ReductionLaws
pub mod WordLaws
