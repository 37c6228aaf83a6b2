pub mod TestLaws
pub mod BelowLaws
pub mod TrapLaws
pub mod ChangedLaws
pub mod FindLaws
pub mod VariantLaws
