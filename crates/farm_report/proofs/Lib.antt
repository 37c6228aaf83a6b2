pub mod NameLaws
mod RunLaws
pub mod CostLines
pub mod StateLaws
