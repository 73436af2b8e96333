pub mod Sides
pub mod Told
pub mod Explains
