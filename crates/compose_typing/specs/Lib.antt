pub mod TypingSession
pub mod Bytes
pub mod Laws
pub mod Service
pub mod Runs
pub mod Loads
