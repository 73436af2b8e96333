pub mod Turns
pub mod Slots
pub mod Serving
pub mod Least
pub mod Rooms
pub mod Rounding
pub mod Trying
pub mod Looping
