pub mod OneKey
pub mod FreshKeysyms
pub mod Steps
mod Untypable
pub mod Lists
mod AsRead
