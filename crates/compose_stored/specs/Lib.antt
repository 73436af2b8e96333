pub mod Folder
pub mod Changes
pub mod Storing
pub mod Steps
pub mod Laws
