pub mod Faults
pub mod LastSoFar
