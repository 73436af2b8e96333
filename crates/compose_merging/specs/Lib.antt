pub mod Settled
pub mod Treatments
pub mod Printed
pub mod Faults
pub mod Merges
pub mod Steps
pub mod Runs
