pub mod Lines
pub mod Ordered
pub mod Keys
pub mod Parts
pub mod Followed
pub mod NamedLines
pub mod Again
pub mod Table
