pub mod GivenSource
pub mod List
pub mod Relations
pub mod EncodedSource
