mod Examples
pub mod OneFrame
pub mod Stream
pub mod NextFrame
pub mod Keysyms
pub mod Sizes
pub mod FirstRequest
pub mod AnyCut
pub mod Exactly
pub mod FaultStays
