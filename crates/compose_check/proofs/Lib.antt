mod Examples
pub mod Lists
pub mod PairOrder
pub mod Landed
pub mod EdgeConditions
pub mod StartConditions
pub mod TypingConditions
pub mod Groups
pub mod Valid
pub mod PartsRead
