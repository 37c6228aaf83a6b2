pub mod BlockLaws
pub mod CutLaws
pub mod FaultLaws
pub mod MoveLaws
pub mod RowLaws
pub mod SpreadLaws
