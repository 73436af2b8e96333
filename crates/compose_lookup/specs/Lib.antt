pub mod Lookup
pub mod TextIndex
pub mod Longer
