pub mod Skipped
