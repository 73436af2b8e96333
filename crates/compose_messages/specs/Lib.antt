pub mod Places
pub mod Tokens
pub mod Messages
pub mod Faults
pub mod Overlaps
pub mod Beginning
pub mod Hints
pub mod Characters
