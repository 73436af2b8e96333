pub mod Underway
pub mod Decided
pub mod Following
pub mod Merges
pub mod Adding
