mod Entries
mod Examples
mod Notes
pub mod Tabs
pub mod OneLine
