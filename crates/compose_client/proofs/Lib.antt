mod Examples
pub mod OneReply
pub mod Keysyms
pub mod FirstReply
pub mod HeadFault
pub mod Exactly
pub mod Widened
