pub mod Ends
pub mod Outcomes
pub mod Exchange
pub mod Arguments
pub mod Told
