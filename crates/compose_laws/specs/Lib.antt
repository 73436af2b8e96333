pub mod Runs
pub mod Promised
