mod AnyLocale
pub mod Failing
pub mod Listed
pub mod NamesRead
pub mod Trees
