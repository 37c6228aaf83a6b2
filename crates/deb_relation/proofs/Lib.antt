pub mod AtomLaws
pub mod EntryLaws
pub mod FieldLaws
pub mod HoldingLaws
pub mod ListLaws
pub mod ReadLaws
pub mod SpellingLaws
pub mod StoreLaws
