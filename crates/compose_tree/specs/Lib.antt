pub mod Targets
pub mod Rows
pub mod Packed
pub mod TableReturns
