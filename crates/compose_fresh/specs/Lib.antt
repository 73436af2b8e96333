pub mod Conditions
pub mod Fresh
