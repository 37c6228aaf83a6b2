pub mod Bases
pub mod Fields
pub mod Found
pub mod Paragraphs
pub mod PlanLines
