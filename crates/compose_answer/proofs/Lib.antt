mod Examples
pub mod Rising
