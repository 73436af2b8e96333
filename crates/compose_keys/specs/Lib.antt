pub mod Words
pub mod Keys
