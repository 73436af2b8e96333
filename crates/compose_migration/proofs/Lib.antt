mod Examples
pub mod KeyNames
pub mod Tables
pub mod Steps
