pub mod MetLaws
pub mod NeedLaws
