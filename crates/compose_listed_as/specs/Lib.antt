pub mod Reached
pub mod Reading
pub mod Judged
pub mod Line
pub mod Report
pub mod Listed
pub mod Run
