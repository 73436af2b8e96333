pub mod AskedSession
pub mod Refusals
pub mod ReplyLine
