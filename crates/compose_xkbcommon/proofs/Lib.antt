pub mod Scans
pub mod Lists
pub mod Escapes
pub mod Right
