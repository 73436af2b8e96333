pub mod Allowed
pub mod Rows
pub mod Reading
pub mod Refusals
pub mod Answered
pub mod Start
