mod Examples
pub mod Reduction
pub mod Candidates
pub mod NodeNumbers
pub mod Onward
pub mod Stepped
pub mod Standing
pub mod Edges
pub mod Nodes
pub mod Starts
pub mod Traces
pub mod Founds
pub mod Reported
pub mod FirstOrder
pub mod Firsts
pub mod Order
