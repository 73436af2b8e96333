pub mod Places
pub mod Last
pub mod Events
pub mod SequenceList
pub mod Counting
pub mod Overlaps
pub mod Placed
