pub mod StartLaws
mod Places
pub mod DeskLaws
pub mod StageLaws
mod Leasts
pub mod LineLaws
pub mod AskLaws
pub mod TurnLaws
pub mod Failures
