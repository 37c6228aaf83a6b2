pub mod AnswerLaws
pub mod CertLaws
pub mod ReadLaws
pub mod RunLaws
pub mod TurnLaws
pub mod NoFloats
pub mod ReadingLaws
