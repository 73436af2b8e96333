pub mod Spelling
pub mod Reading
pub mod Repertoire
pub mod CertificateReturns
pub mod Numerals
pub mod StepReturns
