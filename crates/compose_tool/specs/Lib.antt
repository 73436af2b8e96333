pub mod Typed
pub mod Answers
pub mod TypeReturns
