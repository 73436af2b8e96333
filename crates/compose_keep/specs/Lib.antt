pub mod Kept
pub mod Keeping
pub mod Answered
pub mod Laws
pub mod Stored
