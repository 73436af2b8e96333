mod Examples
pub mod Sequences
pub mod Enough
pub mod Needed
pub mod OneKind
pub mod Reported
pub mod InWords
pub mod Pass
pub mod Evident
pub mod Written
pub mod Placed
pub mod Children
