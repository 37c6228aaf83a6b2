pub mod DriveAnswers
pub mod DriveLines
pub mod KeptRuns
pub mod Statuses
