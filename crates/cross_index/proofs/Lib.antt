pub mod PieceLaws
pub mod IndexLaws
