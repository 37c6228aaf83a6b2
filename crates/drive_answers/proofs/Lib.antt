pub mod DriveLaws
pub mod RanLaws
pub mod StatusLaws
