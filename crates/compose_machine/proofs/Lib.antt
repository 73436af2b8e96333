mod Examples
pub mod Rows
pub mod Seen
pub mod Isolated
pub mod Kept
pub mod Loads
pub mod Stored
pub mod Runs
