pub mod Bundle
pub mod Decoded
pub mod Written
