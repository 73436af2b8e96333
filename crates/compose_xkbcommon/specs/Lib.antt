pub mod Grammar
pub mod Text
pub mod Scanned
pub mod Right
