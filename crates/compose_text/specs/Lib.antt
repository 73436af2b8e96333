pub mod Lines
pub mod Bytes
pub mod Numbers
pub mod Results
