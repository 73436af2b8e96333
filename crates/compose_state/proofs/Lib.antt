pub mod PathNodes
pub mod Feeding
pub mod Alone
