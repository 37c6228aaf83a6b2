pub mod NameLaws
pub mod EntryLaws
pub mod ProvidesLaws
pub mod AlikeLaws
pub mod HitLaws
