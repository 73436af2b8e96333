pub mod Keys
pub mod Migration
pub mod Values
pub mod Refused
