pub mod Given
pub mod LeftOut
pub mod LeftOutOfAll
pub mod Missing
pub mod SourceNames
pub mod WrittenKeys
pub mod Zipped
