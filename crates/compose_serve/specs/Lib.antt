pub mod Streams
pub mod Next
pub mod Ends
