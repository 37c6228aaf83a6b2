pub mod WriteLaws
pub mod ItemLaws
pub mod SeriesLaws
