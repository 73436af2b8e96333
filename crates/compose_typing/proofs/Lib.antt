pub mod Sent
pub mod OneVerdict
pub mod TypedOnce
pub mod Runs
pub mod Loads
mod Examples
