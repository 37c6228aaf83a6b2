pub mod NameLaws
pub mod WishLaws
