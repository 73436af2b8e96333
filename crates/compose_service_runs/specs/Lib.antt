pub mod Serving
pub mod ServingFaults
pub mod Turns
pub mod Clients
pub mod Merged
pub mod Taking
pub mod Status
pub mod Following
