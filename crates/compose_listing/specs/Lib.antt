pub mod Line
pub mod Listing
pub mod Chosen
pub mod Leaves
pub mod Next
pub mod Answers
pub mod Held
pub mod Wanted
