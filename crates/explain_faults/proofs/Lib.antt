pub mod EntryLaws
pub mod SetLaws
