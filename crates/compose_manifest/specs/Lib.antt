pub mod Manifest
pub mod ManifestReturns
pub mod Text
pub mod Outside
