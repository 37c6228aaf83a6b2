pub mod Again
pub mod Drafts
pub mod EntryLines
pub mod Kept
pub mod LineLaws
pub mod Listed
pub mod Names
pub mod RoundTrip
pub mod Waits
pub mod WordLines
pub mod Wordings
mod CertAgain
mod Items
mod KeptLines
mod KnownLines
mod LaneLines
mod Lists
mod OrderLines
mod ReadPlans
mod RowAgain
mod RowVariants
mod RowWords
mod SpelledTables
mod SpelledUniverse
mod TextLines
mod Variants
