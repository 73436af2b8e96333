pub mod Faulty
pub mod Left
pub mod Libxkbcommon
pub mod Places
pub mod Written
