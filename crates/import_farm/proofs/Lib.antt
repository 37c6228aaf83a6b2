pub mod MadeLaws
pub mod NameLaws
pub mod OutputLaws
pub mod RewritingLaws
