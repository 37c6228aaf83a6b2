pub mod Facts
pub mod CertExplained
pub mod Explanations
