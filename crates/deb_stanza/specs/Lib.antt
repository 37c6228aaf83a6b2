pub mod Cut
pub mod Draft
pub mod Keys
pub mod Names
pub mod OwnLines
pub mod Plain
pub mod Stanza
pub mod View
