pub mod TableFile
pub mod Reading
pub mod Fresh
pub mod Origin
