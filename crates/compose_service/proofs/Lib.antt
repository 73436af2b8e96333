pub mod Kept
pub mod Answering
pub mod Starting
pub mod Running
pub mod Halves
