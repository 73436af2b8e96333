pub mod Least
pub mod Candidates
pub mod Wanted
pub mod Found
pub mod Depth
pub mod IsMade
