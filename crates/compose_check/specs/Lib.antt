pub mod Conditions
pub mod Landing
pub mod Typings
pub mod Verdict
pub mod Input
pub mod CheckReturns
