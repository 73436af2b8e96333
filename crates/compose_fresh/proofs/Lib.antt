pub mod Positions
pub mod Used
pub mod Unmet
pub mod FreshKeysyms
