pub mod Read
pub mod Runs
pub mod Yes
