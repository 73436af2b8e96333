pub mod Changing
pub mod EachStep
pub mod Seen
pub mod Whole
