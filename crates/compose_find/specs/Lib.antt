pub mod Expand
pub mod Includes
pub mod Locales
pub mod Found
pub mod FindReturns
pub mod Sources
pub mod Trees
