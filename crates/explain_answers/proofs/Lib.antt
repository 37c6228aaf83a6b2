pub mod NoFloats
pub mod ExplainLaws
