pub mod Keysyms
pub mod Kept
pub mod Named
