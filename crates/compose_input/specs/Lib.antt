pub mod Headers
pub mod Texts
pub mod Names
pub mod Places
pub mod Search
pub mod Tables
pub mod Faults
