pub mod Results
pub mod SourceLines
pub mod Names
