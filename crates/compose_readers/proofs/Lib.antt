pub mod Counted
pub mod Prefixes
pub mod Nodes
pub mod Lines
pub mod Refused
pub mod Takings
