pub mod Failing
pub mod InOrder
pub mod Lent
pub mod Slashes
pub mod Variables
