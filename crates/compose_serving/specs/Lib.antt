pub mod Begin
pub mod Connection
pub mod Fresh
pub mod Journal
