pub mod Replies
pub mod Giving
