pub mod ListLaws
pub mod FurtherLaws
pub mod SetLaws
