mod Examples
pub mod Names
pub mod Splits
pub mod Bundled
pub mod OneBundle
pub mod Pieces
