pub mod Reading
pub mod Seen
pub mod EncodedPackage
pub mod Pieces
pub mod EncodedIndex
pub mod Finished
