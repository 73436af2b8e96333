mod Examples
pub mod Order
pub mod Reduction
pub mod Rows
pub mod Behind
pub mod PlainKeys
pub mod FoundRows
pub mod Missing
pub mod Depths
pub mod Certified
