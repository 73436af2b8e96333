pub mod Lanes
pub mod LineParts
pub mod Digits
