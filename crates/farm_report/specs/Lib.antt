pub mod AnswerLines
pub mod VerdictText
pub mod RunText
pub mod StateText
pub mod CertText
