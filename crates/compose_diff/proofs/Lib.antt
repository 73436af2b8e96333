mod Examples
pub mod AcceptAgain
pub mod Colored
pub mod Found
pub mod Plain
pub mod PlainLines
pub mod NothingAccepted
pub mod Distinct
pub mod Same
pub mod Grouped
pub mod Gone
pub mod Members
pub mod SourceCounts
pub mod Firsts
