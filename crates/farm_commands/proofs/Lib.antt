pub mod ApartLaws
pub mod MakingLaws
pub mod RestLaws
pub mod TextFileLaws
pub mod WordLaws
pub mod PictureLaws
