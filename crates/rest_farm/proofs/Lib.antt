pub mod ItemLaws
pub mod HeldLaws
pub mod KeptLaws
pub mod OddsLaws
pub mod RestLaws
