pub mod Evidence
pub mod Pass
pub mod Kinds
pub mod Steps
pub mod Stands
pub mod Walks
pub mod Explained
