pub mod Shortest
pub mod Sorted
pub mod Order
pub mod FirstOne
pub mod Shorter
pub mod Counted
pub mod Asked
