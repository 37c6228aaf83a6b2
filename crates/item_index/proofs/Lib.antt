pub mod IndexLaws
pub mod ItemLaws
