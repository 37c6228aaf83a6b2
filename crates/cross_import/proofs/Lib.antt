pub mod EachLaws
pub mod TextsLaws
pub mod WantedLaws
