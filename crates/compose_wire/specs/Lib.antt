pub mod Messages
pub mod Frames
pub mod Replies
pub mod Requests
pub mod Feeding
pub mod Cut
