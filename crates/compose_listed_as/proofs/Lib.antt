pub mod Files
pub mod Judging
pub mod Reporting
pub mod Texts
