pub mod Change
pub mod Comparison
pub mod Passes
